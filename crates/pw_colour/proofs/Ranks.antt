-- A stable sort of webs that stand in order.
use Rattle.std.proofs.Common.{◌≡◌, ℕ, suc, ◌+◌, ◌<◌, Bool, true, false, cond, List, [], ◌∷◌, length, get_or, refl, sym, ap, subst, ◌∙◌, arith, inl, inr}
use Rattle.std.specs.Prelude.{Some, slice_get, not, ◌&&◌, ◌<ℤ◌}
use Rattle.std.specs.List.{filter, AllByRecursion}
use Rattle.std.specs.List.Sorted.{IsSortedBy, IsStableBy, ties}
use Rattle.std.specs.Cmp.{IsStrictWeakOrder}
use Rattle.std.specs.Ordering.{int_cmp, is_lt}
use Rattle.std.proofs.lemmas.Cmp.{int_cmp_total, int_ranked, by_ranked, tied_itself, tied_back}
use Rattle.std.proofs.lemmas.List.Sorted.{ranks_by, IsStrictWeakOrder-flip, sorted_far}
use Rattle.pw_files.proofs.Standing.{Has, each_by, has_each, contains_by}
use Rattle.pw_db.specs.Database.{EachTwo}
use Rattle.pw_graph.proofs.Lists.{at_has}
use Rattle.pw_webs.specs.declared.web.RawWeb.{RawWeb}
use Rattle.pw_webs.specs.Webs.{StandsBefore}
use Rattle.pw_colour.specs.Colours.{ComesFirst}

-- ---- each two of a list

pub two_at : {X : Type 0} (R : X → X → Type 0) (xs : List X) → ((i j : ℕ) (x y : X) → i < j → slice_get xs i ≡ Some x → slice_get xs j ≡ Some y → R x y) → EachTwo R xs
two_at R [] f = tt
two_at R (x ∷ xs) f = (
  each_by (R x) xs (λ y h. let p = at_has xs y h in f 0 (suc p.0) x y (omega arith) refl p.1),
  two_at R xs (λ i j a b lt ea eb. f (suc i) (suc j) a b (omega (arith, lt)) ea eb),
)

each_if : {X : Type 0} (P : X → Type 0) (b : Bool) (x : X) (ys : List X) → P x → AllByRecursion P ys → AllByRecursion P (cond b (x ∷ ys) ys)
each_if P true x ys h all = (h, all)
each_if P false x ys h all = all

each_filter : {X : Type 0} (P : X → Type 0) (p : X → Bool) (xs : List X) → AllByRecursion P xs → AllByRecursion P (filter p xs)
each_filter P p [] all = tt
each_filter P p (x ∷ xs) all = each_if P (p x) x (filter p xs) all.0 (each_filter P p xs all.1)

two_if : {X : Type 0} (R : X → X → Type 0) (b : Bool) (x : X) (ys : List X) → AllByRecursion (R x) ys → EachTwo R ys → EachTwo R (cond b (x ∷ ys) ys)
two_if R true x ys h all = (h, all)
two_if R false x ys h all = all

two_filter : {X : Type 0} (R : X → X → Type 0) (p : X → Bool) (xs : List X) → EachTwo R xs → EachTwo R (filter p xs)
two_filter R p [] all = tt
two_filter R p (x ∷ xs) all = two_if R (p x) x (filter p xs) (each_filter (R x) p xs all.0) (two_filter R p xs all.1)

two_tail : {X : Type 0} (R : X → X → Type 0) (b : Bool) (x : X) (ys : List X) → EachTwo R (cond b (x ∷ ys) ys) → EachTwo R ys
two_tail R true x ys all = all.1
two_tail R false x ys all = all

two_head : {X : Type 0} (R : X → X → Type 0) (b : Bool) (x : X) (ys : List X) → b ≡ true → EachTwo R (cond b (x ∷ ys) ys) → AllByRecursion (R x) ys
two_head R true x ys e all = all.0
two_head R false x ys e all = absurd cc

first_kept : {X : Type 0} (b : Bool) (y x : X) (ys : List X) → b ≡ true → y ≡ x → Has x (cond b (y ∷ ys) ys)
first_kept true y x ys e same = inl same
first_kept false y x ys e same = absurd cc

later_kept : {X : Type 0} (b : Bool) (y x : X) (ys : List X) → Has x ys → Has x (cond b (y ∷ ys) ys)
later_kept true y x ys h = inr h
later_kept false y x ys h = h

has_kept : {X : Type 0} (p : X → Bool) (xs : List X) (x : X) → Has x xs → p x ≡ true → Has x (filter p xs)
has_kept p [] x h e = absurd h
has_kept p (y ∷ ys) x (inl same) e = first_kept (p y) y x (filter p ys) (ap p same ∙ e) same
has_kept p (y ∷ ys) x (inr h) e = later_kept (p y) y x (filter p ys) (has_kept p ys x h e)

-- ---- by what they save

-- one saves more than the other
abbrev pub saves_more : RawWeb → RawWeb → Bool
saves_more x y = is_lt (int_cmp y.priority x.priority)

pub is_order : IsStrictWeakOrder saves_more
is_order = IsStrictWeakOrder-flip (λ (x y : RawWeb). is_lt (int_cmp x.priority y.priority)) (ranks_by int_cmp_total (λ (w : RawWeb). w.priority))

neither : (a b : Bool) → a ≡ false → b ≡ false → (not a && not b) ≡ true
neither true b x y = absurd cc
neither false true x y = absurd cc
neither false false x y = refl

comes_first : (y z : RawWeb) (ys : List RawWeb) → Has z ys → saves_more z y ≡ false → EachTwo StandsBefore (filter (ties saves_more y) (y ∷ ys)) → ComesFirst y z
comes_first y z ys h up two =
    by_ranked (y.priority <ℤ z.priority) (y.priority ≡ z.priority) (z.priority <ℤ y.priority) (int_cmp y.priority z.priority) (int_ranked y.priority z.priority (int_cmp y.priority z.priority) refl)
    (λ e lt. absurd (let more = ap is_lt e in cc))
    (λ e same.
    let itself : ties saves_more y y ≡ true = let t = ap is_lt (tied_itself int_cmp_total y.priority) in neither (saves_more y y) (saves_more y y) t t in
    let other : ties saves_more y z ≡ true = neither (saves_more y z) (saves_more z y) (ap is_lt (tied_back int_cmp_total y.priority z.priority e)) (ap is_lt e) in
    inr (same, has_each (StandsBefore y) (filter (ties saves_more y) ys) z (two_head StandsBefore (ties saves_more y y) y (filter (ties saves_more y) ys) itself two) (has_kept (ties saves_more y) ys z h other)))
    (λ e lt. inl lt)

ranked_order : (ys : List RawWeb) → IsSortedBy saves_more ys → ((x : RawWeb) → EachTwo StandsBefore (filter (ties saves_more x) ys)) → EachTwo ComesFirst ys
ranked_order [] up two = tt
ranked_order (y ∷ ys) up two = (
  each_by (ComesFirst y) ys (λ z h.
      let c = contains_by z ys h in
      let lt : suc c.0 < length (y ∷ ys) = let low = c.1 in omega (arith, low) in
      let far = sorted_far saves_more is_order (y ∷ ys) up 0 (suc c.0) z (omega arith) lt in
      comes_first y z ys h (subst (λ (x : RawWeb). saves_more x y ≡ false) c.2 far) (two y)),
  ranked_order ys
      (λ k d low high. let shift : suc k + 1 ≡ suc (k + 1) = omega arith in
      subst (λ n. saves_more (get_or (y ∷ ys) n d) (get_or ys k d) ≡ false) shift (up (suc k) d (omega arith) (omega (arith, high))))
      (λ x. two_tail StandsBefore (ties saves_more x y) y (filter (ties saves_more x) ys) (two x)),
)

pub sorted_order : (xs ys : List RawWeb) → EachTwo StandsBefore xs → IsSortedBy saves_more ys → IsStableBy saves_more xs ys → EachTwo ComesFirst ys
sorted_order xs ys two up stable = ranked_order ys up (λ x. subst (EachTwo StandsBefore) (sym (stable x)) (two_filter StandsBefore (ties saves_more x) xs two))
