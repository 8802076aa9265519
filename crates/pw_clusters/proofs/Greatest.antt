-- The need of a cluster is the greatest of its members' needs.
use Rattle.std.proofs.Common.{◌≡◌, ◌⊎◌, ℕ, zero, suc, ◌+◌, ◌-◌, ◌≤◌, ◌==◌, ◌&&◌, not, Bool, true, false, if◌then◌else◌, List, [], ◌∷◌, length, refl, sym, ap, subst, ◌∙◌, arith, inl, inr}
use Rattle.std.specs.Prelude.{Some, slice_get, slice_index, max}
use Rattle.std.proofs.lemmas.Bool.{cases_lt, and_from, and_parts, eq-eqb, eqb-true, ne_eqb, false≢true}
use Rattle.std.proofs.lemmas.Option.{same_Some, slice_get-get_or, slice_get_within}
use Rattle.std.proofs.lemmas.List.FromFn.{length-range_with_len}
use Rattle.pw_db.specs.Limits.{last_register}
use Rattle.pw_clusters.specs.Clusters.{IsMember}
use Rattle.pw_clusters.specs.Saving.{greatest_need, last_registers, free_by, need_in, free_at, IsNeed}

-- ---- no member needs more

here_most : (b : Bool) (n k : ℕ) → b ≡ true → n ≤ max (if b then n else 0) k
here_most true n k e = omega arith
here_most false n k e = absurd (false≢true e)

later_most : (a n k : ℕ) → n ≤ k → n ≤ max a k
later_most a n k le = omega (arith, le)

meets : (r f : ℕ) (roots needs : List ℕ) (i n : ℕ) → slice_get roots i ≡ Some r → (f + i ≡ r → ⊥) → slice_get needs i ≡ Some n → n ≤ greatest_need r f roots needs
meets r f [] needs i n at other is = absurd cc
meets r f (root ∷ roots) [] i n at other is = absurd cc
meets r f (root ∷ roots) (m ∷ needs) zero n at other is =
    let e : root ≡ r = same_Some root r at in
    let k : m ≡ n = same_Some m n is in
    let away : f ≡ r → ⊥ = λ q. other (let z : f + 0 ≡ f = omega arith in z ∙ q) in
    let test = and_from (root == r) (not (f == r)) (eq-eqb root r e) (ap not (ne_eqb f r away)) in
    subst (λ x. x ≤ greatest_need r f (root ∷ roots) (m ∷ needs)) k (here_most ((root == r) && not (f == r)) m (greatest_need r (suc f) roots needs) test)
meets r f (root ∷ roots) (m ∷ needs) (suc i) n at other is =
    let away : suc f + i ≡ r → ⊥ = λ q. other (let z : f + suc i ≡ suc f + i = omega arith in z ∙ q) in
    later_most (if (root == r) && not (f == r) then m else 0) n (greatest_need r (suc f) roots needs) (meets r (suc f) roots needs i n at away is)

member_at : (roots : List ℕ) (r f : ℕ) → IsMember roots r f → slice_get roots f ≡ Some r
member_at roots r f m = slice_get-get_or roots f 0 m.within ∙ ap Some m.root

as_many : (b : Bool) (k n : ℕ) → b ≡ false → n ≤ k → n ≤ length (if b then [] else last_registers k)
as_many true k n e le = absurd (false≢true (sym e))
as_many false k n e le = let long : length (last_registers k) ≡ k = length-range_with_len (last_register + 1 - k) k in omega (arith, long, le)

pub enough : (roots needs : List ℕ) (r f n : ℕ) → IsMember roots r f → slice_get needs f ≡ Some n → n ≤ length (free_at roots needs f)
enough roots needs r f n m is =
    let away : r ≡ f → ⊥ = λ e. m.other (sym e) in
    let most : n ≤ need_in roots needs r = meets r 0 roots needs f n (member_at roots r f m) (λ e. m.other (let z : 0 + f ≡ f = omega arith in sym z ∙ e)) is in
    subst (λ s. n ≤ length (free_by f s (need_in roots needs s))) (sym m.root) (as_many (r == f) (need_in roots needs r) n (ne_eqb r f away) most)

-- ---- some member needs as many

record NeedsMost (r f : ℕ) (roots needs : List ℕ) (n : ℕ) : Type 0 where
  place : ℕ
  at : slice_get roots place ≡ Some r
  other : f + place ≡ r → ⊥
  need : slice_get needs place ≡ Some n

one_on : (r f root m n : ℕ) (roots needs : List ℕ) → NeedsMost r (suc f) roots needs n → NeedsMost r f (root ∷ roots) (m ∷ needs) n
one_on r f root m n roots needs h =
    record { place = suc h.place; at = h.at; other = λ e. h.other (let z : suc f + h.place ≡ f + suc h.place = omega arith in z ∙ e); need = h.need }

by_test : (b : Bool) (r f root m : ℕ) (roots needs : List ℕ) → (b ≡ true → NeedsMost r f (root ∷ roots) (m ∷ needs) m)
    → (greatest_need r (suc f) roots needs ≡ 0) ⊎ NeedsMost r (suc f) roots needs (greatest_need r (suc f) roots needs)
    → (max (if b then m else 0) (greatest_need r (suc f) roots needs) ≡ 0) ⊎ NeedsMost r f (root ∷ roots) (m ∷ needs) (max (if b then m else 0) (greatest_need r (suc f) roots needs))
by_test false r f root m roots needs first later = elim later [
  | inl e ↦ inl (omega (arith, e))
  | inr h ↦ inr (subst (λ n. NeedsMost r f (root ∷ roots) (m ∷ needs) n) (same_max (greatest_need r (suc f) roots needs)) (one_on r f root m (greatest_need r (suc f) roots needs) roots needs h))
]
  where
    same_max : (k : ℕ) → k ≡ max 0 k
    same_max k = omega arith
by_test true r f root m roots needs first later = elim (cases_lt m (greatest_need r (suc f) roots needs)) [
  | inr past ↦
      let is : m ≡ max m (greatest_need r (suc f) roots needs) = omega (arith, past) in
      inr (subst (λ n. NeedsMost r f (root ∷ roots) (m ∷ needs) n) is (first refl))
  | inl less ↦ elim later [
    | inl e ↦ absurd (omega (arith, e, less))
    | inr h ↦
        let is : greatest_need r (suc f) roots needs ≡ max m (greatest_need r (suc f) roots needs) = omega (arith, less) in
        inr (subst (λ n. NeedsMost r f (root ∷ roots) (m ∷ needs) n) is (one_on r f root m (greatest_need r (suc f) roots needs) roots needs h))
  ]
]

nothing_needed : (r f : ℕ) (roots : List ℕ) → greatest_need r f roots [] ≡ 0
nothing_needed r f [] = refl
nothing_needed r f (root ∷ roots) = nothing_needed r (suc f) roots

away_from : (f r : ℕ) → not (f == r) ≡ true → f ≡ r → ⊥
away_from f r e q = let one = eq-eqb f r q in let two = ap not one in absurd cc

attains : (r f : ℕ) (roots needs : List ℕ) → (greatest_need r f roots needs ≡ 0) ⊎ NeedsMost r f roots needs (greatest_need r f roots needs)
attains r f [] needs = inl refl
attains r f (root ∷ roots) [] = inl (nothing_needed r (suc f) roots)
attains r f (root ∷ roots) (m ∷ needs) = by_test ((root == r) && not (f == r)) r f root m roots needs first (attains r (suc f) roots needs)
  where
    first : ((root == r) && not (f == r)) ≡ true → NeedsMost r f (root ∷ roots) (m ∷ needs) m
    first e =
        let both = and_parts (root == r) (not (f == r)) e in
        record { place = 0; at = ap Some (eqb-true root r both.0); other = λ q. away_from f r both.1 (let z : f + 0 ≡ f = omega arith in sym z ∙ q); need = refl }

pub attained : (roots needs : List ℕ) (r : ℕ) → (need_in roots needs r ≡ 0) ⊎ IsNeed roots needs r (need_in roots needs r)
attained roots needs r = elim (attains r 0 roots needs) [
  | inl e ↦ inl e
  | inr h ↦ inr (record { member = h.place; is = a_member h; need = h.need })
]
  where
    a_member : (h : NeedsMost r 0 roots needs (need_in roots needs r)) → IsMember roots r h.place
    a_member h = record {
      within = slice_get_within roots h.place r h.at;
      root = same_Some (slice_index roots h.place) r (sym (slice_get-get_or roots h.place 0 (slice_get_within roots h.place r h.at)) ∙ h.at);
      other = λ e. h.other (let z : 0 + h.place ≡ h.place = omega arith in z ∙ e);
    }
