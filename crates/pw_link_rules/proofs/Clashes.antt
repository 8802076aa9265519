-- Declarations that do not agree, by the places of sorted declarations.
use Rattle.std.proofs.Common.{◌≡◌, ◌≢◌, ℕ, ◌+◌, ◌-◌, ◌<◌, ◌≤◌, false, List, [], length, refl, sym, ap, subst, ◌∙◌, arith, inl, inr}
use Rattle.std.specs.Prelude.{Option, None, Some, slice_get, Contains}
use Rattle.std.specs.List.Sorted.{IsPermutation}
use Rattle.std.proofs.lemmas.Bool.{cases_lt, cases_eq}
use Rattle.std.proofs.lemmas.List.Sorted.{IsPermutation-sym, Contains-permutation}
use Rattle.pw_value.specs.ProgramNames.{IsOrdinary}
use Rattle.pw_value.specs.Shapes.{Agree}
use Rattle.pw_link_rules.specs.declared.interface.Interface.{Interface}
use Rattle.pw_link_rules.specs.Linking.{declarations, IsInConflict, IsLeastPair, Fails, all_agree}
use Rattle.pw_value.specs.declared.fault.LinkFault.{LinkFault}
use Rattle.pw_value.specs.declared.fault.LinkFault.TheVariants.{Conflict}
use Rattle.pw_link_rules.specs.Entries.{Clash, Two, AreFirst, AreNone, IsNext, IsRun, IsSoonest, key, stands_before}
use Rattle.pw_link_rules.proofs.Sorted.{IsSortedAs, one_item, get_some, some_get, some_at, before_at, up_at, up_both, Up, pairs, least_any, none_any}

abbrev Entry : Type 0
Entry = List ℕ × List ℕ × List ℕ

agree_back : (s t : List ℕ) → Agree s t → Agree t s
agree_back s t (inl e) = inl (sym e)
agree_back s t (inr (inl g)) = inr (inr g)
agree_back s t (inr (inr g)) = inr (inl g)

clash_same : (a b : Entry) → Clash a b → (key a).0 ≡ (key b).0
clash_same a b clash = clash.1

clash_back : (a b : Entry) → Clash a b → Clash b a
clash_back a b clash = (subst IsOrdinary clash.1 clash.0, sym clash.1, λ agrees. clash.2 (agree_back b.2 a.2 agrees))

-- what repeats the one before it clashes with no later one, where none before it does
pub none_repeated : (ds : List Entry) (i : ℕ) (a b : Entry) → 0 < i → slice_get ds (i - 1) ≡ Some a → slice_get ds i ≡ Some b → a.0 ≡ b.0 → a.2 ≡ b.2 → ((p q : ℕ) → Two Clash ds p q → i ≤ p) → (k : ℕ) → Two Clash ds i k → ⊥
none_repeated ds i a b some at_a at_b name shape before k t =
    let low_is : b ≡ t.low = one_item ds i b t.low at_b t.at_low in
    let name_is : a.0 ≡ t.low.0 = name ∙ ap (λ (d : Entry). d.0) low_is in
    let shape_is : t.low.2 ≡ a.2 = sym (shape ∙ ap (λ (d : Entry). d.2) low_is) in
    let wrong : Clash a t.high = (subst IsOrdinary (sym name_is) t.wrong.0, name_is ∙ t.wrong.1, λ agrees. t.wrong.2 (subst (λ (s : List ℕ). Agree s t.high.2) (sym shape_is) agrees)) in
    let earlier : Two Clash ds (i - 1) k = record { low = a; high = t.high; rise = omega (arith, t.rise, some); at_low = at_a; at_high = t.at_high; wrong = wrong } in
    let le = before (i - 1) k earlier in
    omega (arith, le, some)

-- ---- the first against one

-- behind the first of another name none is of this one
pub none_behind : (ds : List Entry) → IsSortedAs key ds → (i j : ℕ) (a b : Entry) → i < j → slice_get ds i ≡ Some a → slice_get ds j ≡ Some b → (a.0 ≢ b.0) → ((k : ℕ) → k < j → Two Clash ds i k → ⊥) → (k : ℕ) → Two Clash ds i k → ⊥
none_behind ds sorted i j a b lt at_i at_j other before k t =
    elim (cases_lt k j) [
      | inl low ↦ before k low t
      | inr high ↦
          let one = up_at key ds sorted i j a b (omega (arith, lt)) at_i at_j in
          let two = up_at key ds sorted j k b t.high high at_j t.at_high in
          let low_is : t.low ≡ a = one_item ds i t.low a t.at_low at_i in
          let name : a.0 ≡ t.high.0 = ap (λ (d : Entry). d.0) (sym low_is) ∙ t.wrong.1 in
          other (up_both a.0 b.0 one.0 (subst (Up b.0) (sym name) two.0))
    ]

pub next_by : (ds : List Entry) (i j : ℕ) (a b : Entry) → i < j → slice_get ds i ≡ Some a → slice_get ds j ≡ Some b → Clash a b → ((k : ℕ) → k < j → Two Clash ds i k → ⊥) → IsNext Clash ds i j
next_by ds i j a b lt at_i at_j clash before = record {
  two = record { low = a; high = b; rise = lt; at_low = at_i; at_high = at_j; wrong = clash };
  next = λ k t. elim (cases_lt k j) [ inl low ↦ absurd (before k low t) | inr high ↦ high ];
}

pub none_to_end : (ds : List Entry) (i : ℕ) → ((k : ℕ) → k < length ds → Two Clash ds i k → ⊥) → (k : ℕ) → Two Clash ds i k → ⊥
none_to_end ds i before k t = let r = get_some ds k t.high t.high t.at_high in before k r.0 t

pub none_yet : (ds : List Entry) (i k : ℕ) → k < i + 1 → Two Clash ds i k → ⊥
none_yet ds i k low t = omega (arith, low, t.rise)

pub one_further : (ds : List Entry) (i j : ℕ) (a b : Entry) → slice_get ds i ≡ Some a → slice_get ds j ≡ Some b → (Clash a b → ⊥) → ((k : ℕ) → k < j → Two Clash ds i k → ⊥) → (k : ℕ) → k < j + 1 → Two Clash ds i k → ⊥
one_further ds i j a b at_i at_j fine before k low t =
    elim (cases_eq k j) [
      | inl e ↦
          let low_is : t.low ≡ a = one_item ds i t.low a t.at_low at_i in
          let high_is : t.high ≡ b = one_item ds j t.high b (subst (λ (n : ℕ). slice_get ds n ≡ Some t.high) e t.at_high) at_j in
          fine (subst (Clash a) high_is (subst (λ (d : Entry). Clash d t.high) low_is t.wrong))
      | inr ne ↦ before k (omega (arith, low, ne)) t
    ]

-- ---- the first of all

pub none_at : (ds : List Entry) (i : ℕ) → ((j : ℕ) → Two Clash ds i j → ⊥) → ((a b : ℕ) → Two Clash ds a b → i ≤ a) → (a b : ℕ) → Two Clash ds a b → i + 1 ≤ a
none_at ds i none later a b t =
    elim (cases_eq a i) [
      | inl e ↦ absurd (none b (record { low = t.low; high = t.high; rise = subst (λ (n : ℕ). n < b) e t.rise; at_low = subst (λ (n : ℕ). slice_get ds n ≡ Some t.low) e t.at_low; at_high = t.at_high; wrong = t.wrong }))
      | inr ne ↦ let le = later a b t in omega (arith, le, ne)
    ]

-- what is like the one before it agrees with all that come later
pub like_before : (ds : List Entry) (i : ℕ) (a b : Entry) → 0 < i → slice_get ds (i - 1) ≡ Some a → slice_get ds i ≡ Some b → a.0 ≡ b.0 → a.2 ≡ b.2 → ((p q : ℕ) → Two Clash ds p q → i ≤ p) → (j : ℕ) → Two Clash ds i j → ⊥
like_before ds i a b some at_a at_b name shape later j t =
    let low_is : t.low ≡ b = one_item ds i t.low b t.at_low at_b in
    let clash : Clash b t.high = subst (λ (d : Entry). Clash d t.high) low_is t.wrong in
    let earlier : Two Clash ds (i - 1) j = record {
      low = a;
      high = t.high;
      rise = omega (arith, some, t.rise);
      at_low = at_a;
      at_high = t.at_high;
      wrong = (subst IsOrdinary (sym name) clash.0, name ∙ clash.1, λ agrees. clash.2 (subst (λ (s : List ℕ). Agree s t.high.2) shape agrees));
    } in
    let le = later (i - 1) j earlier in
    omega (arith, some, le)

-- ---- those of one name and one module

pub run_first : (ds : List Entry) (i : ℕ) (k : ℕ) (a b : Entry) → i ≤ k → k < i + 1 → slice_get ds i ≡ Some a → slice_get ds k ≡ Some b → key a ≡ key b
run_first ds i k a b le lt at_i at_k =
    let e : k ≡ i = omega (arith, le, lt) in
    ap key (one_item ds i a b at_i (subst (λ (n : ℕ). slice_get ds n ≡ Some b) e at_k))

pub run_further : (ds : List Entry) (i j : ℕ) (c d : Entry) → slice_get ds i ≡ Some c → slice_get ds j ≡ Some d → c.0 ≡ d.0 → c.1 ≡ d.1 → ((k : ℕ) (a b : Entry) → i ≤ k → k < j → slice_get ds i ≡ Some a → slice_get ds k ≡ Some b → key a ≡ key b)
    → (k : ℕ) (a b : Entry) → i ≤ k → k < j + 1 → slice_get ds i ≡ Some a → slice_get ds k ≡ Some b → key a ≡ key b
run_further ds i j c d at_c at_d name home before k a b le lt at_i at_k =
    elim (cases_eq k j) [
      | inl e ↦ ap key (one_item ds i a c at_i at_c) ∙ pairs (key c) (key d) name home ∙ ap key (one_item ds j d b at_d (subst (λ (n : ℕ). slice_get ds n ≡ Some b) e at_k))
      | inr ne ↦ before k a b le (omega (arith, lt, ne)) at_i at_k
    ]

-- ---- the soonest

pub soonest_one : (ds : List Entry) (i j : ℕ) → IsNext Clash ds i j → IsSoonest ds i (i + 1) i j
soonest_one ds i j next = record {
  first = next.two.low;
  at_first = next.two.at_low;
  two = next.two;
  same = refl;
  least = λ a b le lt t. let e : a ≡ i = omega (arith, le, lt) in next.next b (subst (λ (n : ℕ). Two Clash ds n b) e t);
}

pub soonest_skips : (ds : List Entry) (i k at best : ℕ) → IsSoonest ds i k at best → ((b : ℕ) → Two Clash ds k b → best ≤ b) → IsSoonest ds i (k + 1) at best
soonest_skips ds i k at best so_far later = record {
  first = so_far.first;
  at_first = so_far.at_first;
  two = so_far.two;
  same = so_far.same;
  least = λ a b le lt t. elim (cases_eq a k) [
    | inl e ↦ later b (subst (λ (n : ℕ). Two Clash ds n b) e t)
    | inr ne ↦ so_far.least a b le (omega (arith, lt, ne)) t
  ];
}

pub soonest_takes : (ds : List Entry) (i k at best stop next : ℕ) → IsSoonest ds i k at best → IsRun key ds i stop → i ≤ k → k < stop → IsNext Clash ds k next → next < best → IsSoonest ds i (k + 1) k next
soonest_takes ds i k at best stop next so_far run le lt is less = record {
  first = so_far.first;
  at_first = so_far.at_first;
  two = is.two;
  same = sym (run.same k so_far.first is.two.low le lt so_far.at_first is.two.at_low);
  least = λ a b low high t. elim (cases_eq a k) [
    | inl e ↦ is.next b (subst (λ (n : ℕ). Two Clash ds n b) e t)
    | inr ne ↦ let older = so_far.least a b low (omega (arith, high, ne)) t in omega (arith, older, less)
  ];
}

inside : (ds : List Entry) → IsSortedAs key ds → (i stop a : ℕ) (one other : Entry) → IsRun key ds i stop → slice_get ds i ≡ Some one → slice_get ds a ≡ Some other → key other ≡ key one → a < stop
inside ds sorted i stop a one other run at_one at_other same =
    elim (cases_lt a stop) [
      | inl low ↦ low
      | inr high ↦
          let r = get_some ds a other other at_other in
          let edge = some_at ds stop (omega (arith, high, r.0)) in
          let some = run.some in
          let up = up_at key ds sorted i stop one edge.0 (omega (arith, some)) at_one edge.1 in
          let on = up_at key ds sorted stop a edge.0 other high edge.1 at_other in
          let name : one.0 ≡ edge.0.0 = up_both one.0 edge.0.0 up.0 (subst (Up edge.0.0) (ap (λ (p : List ℕ × List ℕ). p.0) same) on.0) in
          let back : edge.0.0 ≡ other.0 = sym name ∙ sym (ap (λ (p : List ℕ × List ℕ). p.0) same) in
          let home : one.1 ≡ edge.0.1 = up_both one.1 edge.0.1 (up.1 name) (subst (Up edge.0.1) (ap (λ (p : List ℕ × List ℕ). p.1) same) (on.1 back)) in
          absurd (run.ends one edge.0 at_one edge.1 (pairs (key one) (key edge.0) name home))
    ]

pub soonest_first : (ds : List Entry) → IsSortedAs key ds → (i stop k at best : ℕ) → IsSoonest ds i k at best → IsRun key ds i stop → stop ≤ k → ((a b : ℕ) → Two Clash ds a b → i ≤ a) → AreFirst key Clash ds at best
soonest_first ds sorted i stop k at best so_far run le later = record {
  two = so_far.two;
  sooner = λ a b t. subst (λ (p : List ℕ × List ℕ). stands_before (key t.low) p ≡ false) (sym so_far.same) (before_at key ds sorted i a so_far.first t.low (later a b t) so_far.at_first t.at_low);
  ends = λ a b t e. let low = inside ds sorted i stop a so_far.first t.low run so_far.at_first t.at_low (e ∙ so_far.same) in so_far.least a b (later a b t) (omega (arith, low, le)) t;
}

-- ---- the declarations of a program

third : Option Entry → List ℕ
third None = []
third (Some d) = d.2

apart : (ds : List Entry) (p q : ℕ) (x y : Entry) → slice_get ds p ≡ Some x → slice_get ds q ≡ Some y → (Agree x.2 y.2 → ⊥) → p ≢ q
unfolding third
apart ds p q x y at_p at_q disagree e = disagree (inl (ap third (sym at_p ∙ ap (slice_get ds) e ∙ at_q)))

pub in_conflict : (modules : List Interface) (ds : List Entry) (i j : ℕ) → IsPermutation (declarations modules) ds → IsSortedAs key ds → (first : AreFirst key Clash ds i j) → IsLeastPair (IsInConflict modules) first.two.low.0 first.two.low.1 first.two.high.1
in_conflict modules ds i j perm sorted first =
    let t = first.two in
    let back = IsPermutation-sym (declarations modules) ds perm in
    let low = get_some ds i t.low t.low t.at_low in
    let high = get_some ds j t.high t.high t.at_high in
    record {
      is = record {
        ordinary = t.wrong.0;
        shape = t.low.2;
        against = t.high.2;
        first = Contains-permutation ds (declarations modules) t.low back (i, low.0, low.1);
        second = subst (λ (n : List ℕ). Contains (declarations modules) (n, t.high.1, t.high.2)) (sym t.wrong.1) (Contains-permutation ds (declarations modules) t.high back (j, high.0, high.1));
        disagree = t.wrong.2;
      };
      least = λ n a b h.
          let p = Contains-permutation (declarations modules) ds (n, a, h.shape) perm h.first in
          let q = Contains-permutation (declarations modules) ds (n, b, h.against) perm h.second in
          let at_p = some_get ds p.0 (n, a, h.shape) p.1 (sym p.2) in
          let at_q = some_get ds q.0 (n, b, h.against) q.1 (sym q.2) in
          least_any key Clash clash_same clash_back ds sorted i j first p.0 q.0 (n, a, h.shape) (n, b, h.against) (apart ds p.0 q.0 (n, a, h.shape) (n, b, h.against) at_p at_q h.disagree) at_p at_q (h.ordinary, refl, h.disagree);
    }

pub none_in_conflict : (modules : List Interface) (ds : List Entry) → IsPermutation (declarations modules) ds → AreNone Clash ds → (n a b : List ℕ) → IsInConflict modules n a b → ⊥
none_in_conflict modules ds perm none n a b h =
    let p = Contains-permutation (declarations modules) ds (n, a, h.shape) perm h.first in
    let q = Contains-permutation (declarations modules) ds (n, b, h.against) perm h.second in
    let at_p = some_get ds p.0 (n, a, h.shape) p.1 (sym p.2) in
    let at_q = some_get ds q.0 (n, b, h.against) q.1 (sym q.2) in
    none_any Clash clash_back ds none p.0 q.0 (n, a, h.shape) (n, b, h.against) (apart ds p.0 q.0 (n, a, h.shape) (n, b, h.against) at_p at_q h.disagree) at_p at_q (h.ordinary, refl, h.disagree)

-- ---- the end of a run

pub run_ends : (ds : List Entry) (i stop : ℕ) (c d : Entry) → i < stop → stop ≤ length ds → slice_get ds i ≡ Some c → slice_get ds stop ≡ Some d → (c.0 ≡ d.0 → c.1 ≡ d.1 → ⊥) → ((k : ℕ) (a b : Entry) → i ≤ k → k < stop → slice_get ds i ≡ Some a → slice_get ds k ≡ Some b → key a ≡ key b) → IsRun key ds i stop
run_ends ds i stop c d some within at_i at_stop differ same = record {
  some = some;
  within = within;
  same = same;
  ends = λ a b at_a at_b e.
      let f = ap key (one_item ds i c a at_i at_a) ∙ e ∙ ap key (one_item ds stop b d at_b at_stop) in
      differ (ap (λ (p : List ℕ × List ℕ). p.0) f) (ap (λ (p : List ℕ × List ℕ). p.1) f);
}

pub run_all : (ds : List Entry) (i stop : ℕ) → i < stop → stop ≡ length ds → ((k : ℕ) (a b : Entry) → i ≤ k → k < stop → slice_get ds i ≡ Some a → slice_get ds k ≡ Some b → key a ≡ key b) → IsRun key ds i stop
run_all ds i stop some all same = record {
  some = some;
  within = omega (arith, all);
  same = same;
  ends = λ a b at_a at_b e. let r = get_some ds stop b b at_b in omega (arith, r.0, all);
}

pub told_conflict : (modules : List Interface) (ds : List Entry) (i j : ℕ) → IsPermutation (declarations modules) ds → IsSortedAs key ds → (first : AreFirst key Clash ds i j) → (a b : Entry) → slice_get ds i ≡ Some a → slice_get ds j ≡ Some b → (fault : LinkFault) → fault ≡ Conflict a.0 a.1 b.1 → Fails all_agree modules fault
told_conflict modules ds i j perm sorted first a b at_a at_b fault e =
    let t = first.two in
    let a_is = one_item ds i a t.low at_a t.at_low in
    let b_is = one_item ds j b t.high at_b t.at_high in
    (t.low.0, t.low.1, t.high.1, in_conflict modules ds i j perm sorted first, e ∙ ap (λ (x : Entry). Conflict x.0 x.1 b.1) a_is ∙ ap (λ (y : Entry). Conflict t.low.0 t.low.1 y.1) b_is)
