-- Two different places of a list, when its items are moved.
use Rattle.std.proofs.Common.{◌≡◌, ◌≢◌, ◌⊎◌, ℕ, ◌<◌, List, length, get_or, refl, sym, ap, ◌∙◌, arith, inl, inr}
use Rattle.std.specs.List.{swap}
use Rattle.std.specs.List.Sorted.{IsPermutation}
use Rattle.std.proofs.lemmas.Bool.{cases_eq}
use Rattle.std.proofs.lemmas.List.Edits.{swapped_from_swap, length-swap}
use Rattle.std.proofs.lemmas.List.Sorted.{IsPermutation-keeps}
use Rattle.std.specs.Prelude.{Some, slice_get}
use Rattle.pw_link_rules.proofs.Sorted.{get_some, some_get}

abbrev Stands : {X : Type 0} → List X → ℕ → X → Type 0
Stands xs i x = (i < length xs) × (get_or xs i x ≡ x)

-- x and y stand at two places
pub record Places {X : Type 0} (xs : List X) (x y : X) : Type 0 where
  pub one : ℕ
  pub other : ℕ
  pub apart : one ≢ other
  pub at_one : Stands xs one x
  pub at_other : Stands xs other y

-- where an item is when a and b have been exchanged
abbrev IsTurn : ℕ → ℕ → ℕ → ℕ → Type 0
IsTurn a b i k = ((i ≡ a) × (k ≡ b)) ⊎ (((i ≡ b) × (k ≡ a)) ⊎ ((i ≢ a) × (i ≢ b) × (k ≡ i)))

still_apart : (a b i j k m : ℕ) → IsTurn a b i k → IsTurn a b j m → i ≢ j → k ≢ m
still_apart a b i j k m (inl p) (inl q) h e = h (p.0 ∙ sym q.0)
still_apart a b i j k m (inl p) (inr (inl q)) h e = h (p.0 ∙ sym q.1 ∙ sym e ∙ p.1 ∙ sym q.0)
still_apart a b i j k m (inl p) (inr (inr q)) h e = q.1 (sym q.2 ∙ sym e ∙ p.1)
still_apart a b i j k m (inr (inl p)) (inl q) h e = h (p.0 ∙ sym q.1 ∙ sym e ∙ p.1 ∙ sym q.0)
still_apart a b i j k m (inr (inl p)) (inr (inl q)) h e = h (p.0 ∙ sym q.0)
still_apart a b i j k m (inr (inl p)) (inr (inr q)) h e = q.0 (sym q.2 ∙ sym e ∙ p.1)
still_apart a b i j k m (inr (inr p)) (inl q) h e = p.1 (sym p.2 ∙ e ∙ q.1)
still_apart a b i j k m (inr (inr p)) (inr (inl q)) h e = p.0 (sym p.2 ∙ e ∙ q.1)
still_apart a b i j k m (inr (inr p)) (inr (inr q)) h e = h (sym p.2 ∙ e ∙ q.2)

turned : {X : Type 0} (xs : List X) (a b i : ℕ) (x : X) → a < length xs → b < length xs → Stands xs i x → (k : ℕ) × Stands (swap xs a b) k x × IsTurn a b i k
turned xs a b i x la lb at =
    let s = swapped_from_swap xs (swap xs a b) a b x la lb refl in
    let same = length-swap xs a b in
    elim (cases_eq i a) [
      | inl e ↦ (b, (omega (arith, same, lb), s.1 ∙ ap (λ (n : ℕ). get_or xs n x) (sym e) ∙ at.1), inl (e, refl))
      | inr ne ↦ elim (cases_eq i b) [
        | inl e ↦ (a, (omega (arith, same, la), s.0 ∙ ap (λ (n : ℕ). get_or xs n x) (sym e) ∙ at.1), inr (inl (e, refl)))
        | inr nf ↦ (i, (omega (arith, same, at.0), s.2 i ne nf ∙ at.1), inr (inr (ne, nf, refl)))
      ]
    ]

pub moved : {X : Type 0} (xs ys : List X) (x y : X) → IsPermutation xs ys → Places xs x y → Places ys x y
moved {X} xs ys x y perm places =
    IsPermutation-keeps xs (λ (l : List X). Places l x y) places
    (λ l a b la lb p.
    let one = turned l a b p.one x la lb p.at_one in
    let other = turned l a b p.other y la lb p.at_other in
    record { one = one.0; other = other.0; apart = still_apart a b p.one p.other one.0 other.0 one.2 other.2 p.apart; at_one = one.1; at_other = other.1 })
    ys perm

pub places_by : {X : Type 0} (xs : List X) (i j : ℕ) (x y : X) → i ≢ j → slice_get xs i ≡ Some x → slice_get xs j ≡ Some y → Places xs x y
places_by xs i j x y apart at_i at_j = record { one = i; other = j; apart = apart; at_one = get_some xs i x x at_i; at_other = get_some xs j y y at_j }

pub get_at : {X : Type 0} (xs : List X) (i : ℕ) (x : X) → (i < length xs) × (get_or xs i x ≡ x) → slice_get xs i ≡ Some x
get_at xs i x at = some_get xs i x at.0 (sym at.1)
