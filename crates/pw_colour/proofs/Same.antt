-- Webs that are the same save the same; and of webs in order no two are the same.
use Rattle.std.proofs.Common.{◌≡◌, ℕ, ◌*◌, ◌<◌, ◌≤◌, Bool, true, false, List, [], ◌∷◌, length, refl, sym, ap, subst, ◌∙◌, arith, inl, inr}
use Rattle.std.specs.Prelude.{Contains, IsTrue, ℤ, pos, ◌+ℤ◌}
use Rattle.std.specs.List.{AllByRecursion, sum_by}
use Rattle.std.proofs.lemmas.Int.{ints}
use Rattle.pw_files.proofs.Standing.{Has, each_by, has_each, has_by, contains_by}
use Rattle.pw_fix.specs.Row.{Holds, members as numbers}
use Rattle.pw_fix.specs.declared.bit_row.BitRow.{BitRow}
use Rattle.pw_db.specs.Database.{EachTwo}
use Rattle.pw_graph.specs.declared.graph.CallGraph.{CallGraph}
use Rattle.pw_graph.specs.CallGraph.{Writes}
use Rattle.pw_graph.proofs.Members.{Ups, members_ups, in_members}
use Rattle.pw_webs.specs.declared.web.RawWeb.{RawWeb}
use Rattle.pw_webs.specs.Webs.{self, HasCaller, IsRawWeb, IsSameWeb, IsLeastMember, StandsBefore, weight, entry_cost}
use Rattle.pw_colour.specs.Colours.{ComesFirst}

-- ---- numbers that rise

heads : (x y : ℕ) (xs ys : List ℕ) → AllByRecursion (λ z. x < z) xs → AllByRecursion (λ z. y < z) ys → Has x (y ∷ ys) → Has y (x ∷ xs) → x ≡ y
heads x y xs ys a b (inl e) h = sym e
heads x y xs ys a b (inr k) (inl e) = e
heads x y xs ys a b (inr k) (inr j) = let one = has_each (λ z. y < z) ys x b k in let two = has_each (λ z. x < z) xs y a j in absurd (omega (arith, one, two))

in_tail : (x y z : ℕ) (xs ys : List ℕ) → AllByRecursion (λ w. x < w) xs → x ≡ y → Has z xs → Has z (y ∷ ys) → Has z ys
in_tail x y z xs ys up same h (inl e) = let lt = has_each (λ w. x < w) xs z up h in absurd (omega (arith, lt, same, e))
in_tail x y z xs ys up same h (inr k) = k

pub ups_one : (xs ys : List ℕ) → Ups xs → Ups ys → ((x : ℕ) → Has x xs → Has x ys) → ((x : ℕ) → Has x ys → Has x xs) → xs ≡ ys
ups_one [] [] a b f g = refl
ups_one [] (y ∷ ys) a b f g = absurd (g y (inl refl))
ups_one (x ∷ xs) [] a b f g = absurd (f x (inl refl))
ups_one (x ∷ xs) (y ∷ ys) a b f g =
    let e : x ≡ y = heads x y xs ys a.0 b.0 (f x (inl refl)) (g y (inl refl)) in
    let tails = ups_one xs ys a.1 b.1 (λ z h. in_tail x y z xs ys a.0 e h (f z (inr h))) (λ z h. in_tail y x z ys xs b.0 (sym e) h (g z (inr h))) in
    ap (λ z. z ∷ xs) e ∙ ap (λ (zs : List ℕ). y ∷ zs) tails

pub same_numbers : (a b : BitRow) → ((f : ℕ) → Holds a f → Holds b f) → ((f : ℕ) → Holds b f → Holds a f) → numbers a ≡ numbers b
same_numbers a b one two =
    ups_one (numbers a) (numbers b) (members_ups a) (members_ups b)
    (λ x h. has_by x (numbers b) ((in_members b x).1 (one x ((in_members a x).0 (contains_by x (numbers a) h)))))
    (λ x h. has_by x (numbers a) ((in_members a x).1 (two x ((in_members b x).0 (contains_by x (numbers b) h)))))

-- ---- webs that are the same

pub record IsLike (a b : RawWeb) : Type 0 where
  pub global : a.global ≡ b.global
  pub members : numbers a.members ≡ numbers b.members
  pub entries : numbers a.entries ≡ numbers b.entries
  pub writes : a.writes ≡ b.writes
  pub priority : a.priority ≡ b.priority

pub back : (a b : RawWeb) → IsSameWeb a b → IsSameWeb b a
back a b same = (sym same.0, λ f. ((same.1 f).1, (same.1 f).0))

entry_in : (g : CallGraph) (a b : RawWeb) → IsRawWeb g a → IsRawWeb g b → IsSameWeb a b → (f : ℕ) → Holds a.entries f → Holds b.entries f
entry_in g a b ra rb same f h =
    let entry : Contains (numbers a.entries) f = (in_members a.entries f).1 h in
    let member : Holds b.members f = (same.1 f).0 ((in_members a.members f).0 (ra.web.entries_within f entry)) in
    elim (rb.web.others f ((in_members b.members f).1 member)) [
      | inl e ↦ (in_members b.entries f).0 e
      | inr has ↦ absurd (ra.web.entry f entry (subst (λ v. HasCaller g v f) (sym same.0) has))
    ]

one_truth : (x y : Bool) → (IsTrue x → IsTrue y) → (IsTrue y → IsTrue x) → x ≡ y
one_truth true true f g = refl
one_truth true false f g = let e = f refl in absurd cc
one_truth false true f g = let e = g refl in absurd cc
one_truth false false f g = refl

writes_too : (g : CallGraph) (a b : RawWeb) → IsRawWeb g a → IsRawWeb g b → IsSameWeb a b → IsTrue a.writes → IsTrue b.writes
writes_too g a b ra rb same t =
    let w = ra.writes.0 t in
    rb.writes.1 (w.0, (same.1 w.0).0 w.1, subst (Writes g w.0) same.0 w.2)

saves_same : (p q : ℤ) (m n s t : ℕ) → m ≡ n → s ≡ t → p +ℤ pos m ≡ pos s → q +ℤ pos n ≡ pos t → p ≡ q
saves_same p q m n s t same sums one two = omega (arith, ints)

pub like : (g : CallGraph) (a b : RawWeb) → IsRawWeb g a → IsRawWeb g b → IsSameWeb a b → IsLike a b
like g a b ra rb same =
    let members : numbers a.members ≡ numbers b.members = same_numbers a.members b.members (λ f h. (same.1 f).0 h) (λ f h. (same.1 f).1 h) in
    let entries : numbers a.entries ≡ numbers b.entries = same_numbers a.entries b.entries (entry_in g a b ra rb same) (entry_in g b a rb ra (back a b same)) in
    let writes : a.writes ≡ b.writes = one_truth a.writes b.writes (writes_too g a b ra rb same) (writes_too g b a rb ra (back a b same)) in
    let costs : entry_cost a.writes * length (numbers a.entries) ≡ entry_cost b.writes * length (numbers b.entries) =
    ap (λ (t : Bool). entry_cost t * length (numbers a.entries)) writes ∙ ap (λ (es : List ℕ). entry_cost b.writes * length es) entries in
    let sums : sum_by (weight g a.global) (numbers a.members) ≡ sum_by (weight g b.global) (numbers b.members) =
    ap (λ v. sum_by (weight g v) (numbers a.members)) same.0 ∙ ap (λ (ms : List ℕ). sum_by (weight g b.global) ms) members in
    record {
      global = same.0;
      members = members;
      entries = entries;
      writes = writes;
      priority = saves_same a.priority b.priority (entry_cost a.writes * length (numbers a.entries)) (entry_cost b.writes * length (numbers b.entries)) (sum_by (weight g a.global) (numbers a.members)) (sum_by (weight g b.global) (numbers b.members)) costs sums ra.priority rb.priority;
    }

-- ---- in order

first_least : (xs : List ℕ) (y : ℕ) → Ups xs → Has y xs → (f : ℕ) × Has f xs × ((z : ℕ) → Has z xs → f ≤ z)
first_least [] y ups h = absurd h
first_least (x ∷ xs) y ups h = (x, inl refl, λ z k. elim k [ inl e ↦ omega (arith, e) | inr j ↦ let lt = has_each (λ w. x < w) xs z ups.0 j in omega (arith, lt) ])

pub least_of : (g : CallGraph) (w : RawWeb) → IsRawWeb g w → (f : ℕ) × IsLeastMember w f
least_of g w raw =
    let root = (raw.web.of raw.web.root).1 (self raw.web.root raw.web.within) in
    let p = first_least (numbers w.members) raw.web.root (members_ups w.members) (has_by raw.web.root (numbers w.members) root) in
    (p.0, record { is = (in_members w.members p.0).0 (contains_by p.0 (numbers w.members) p.1); least = λ other h. p.2 other (has_by other (numbers w.members) ((in_members w.members other).1 h)) })

pub least_too : (a b : RawWeb) → IsSameWeb a b → (f : ℕ) → IsLeastMember a f → IsLeastMember b f
least_too a b same f l = record { is = (same.1 f).0 l.is; least = λ other h. l.least other ((same.1 other).1 h) }

not_before : (g : CallGraph) (a b : RawWeb) → IsRawWeb g a → IsSameWeb a b → StandsBefore a b → ⊥
not_before g a b ra same (inl lt) = omega (arith, lt, same.0)
not_before g a b ra same (inr w) = let l = least_of g a ra in let lt = w.1 l.0 l.0 l.1 (least_too a b same l.0 l.1) in omega (arith, lt)

pub not_first : (g : CallGraph) (a b : RawWeb) → IsRawWeb g a → IsRawWeb g b → IsSameWeb a b → ComesFirst a b → ⊥
not_first g a b ra rb same (inl lt) = let e = (like g a b ra rb same).priority in omega (arith, ints, lt, e)
not_first g a b ra rb same (inr w) = not_before g a b ra same w.1

pub differ : (g : CallGraph) (ws : List RawWeb) → AllByRecursion (IsRawWeb g) ws → EachTwo ComesFirst ws → EachTwo (λ u w. IsSameWeb u w → ⊥) ws
differ g [] raws two = tt
differ g (w ∷ ws) raws two = (
  each_by (λ u. IsSameWeb w u → ⊥) ws (λ u h same. not_first g w u raws.0 (has_each (IsRawWeb g) ws u raws.1 h) same (has_each (ComesFirst w) ws u two.0 h)),
  differ g ws raws.1 two.1,
)
