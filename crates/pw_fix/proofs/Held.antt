-- The list of the numbers that words hold.
use Rattle.std.proofs.Common.{◌≡◌, ℕ, zero, suc, ◌+◌, ◌-◌, ◌/◌, ◌%◌, ◌<◌, ◌≤◌, List, [], ◌∷◌, length, arith, inl, inr, get_or, ◌∙◌, refl, true, false, add-one}
use Rattle.std.specs.Int.{bit_at}
use Rattle.std.proofs.Math.Dec.{eqb}
use Rattle.std.proofs.lemmas.Bool.{cases_eq, eq-eqb, ne_eqb}
use Rattle.pw_fix.specs.Words.{HasBit, held}
use Rattle.pw_fix.proofs.Bits.{held_cases}

-- the test of the list answers what the words hold
test_on : (ws : List ℕ) (i : ℕ) → HasBit ws i → eqb (bit_at (get_or ws (i / 64) 0) (i % 64)) 1 ≡ true
test_on ws i h = eq-eqb (bit_at (get_or ws (i / 64) 0) (i % 64)) 1 h

test_off : (ws : List ℕ) (i : ℕ) → (HasBit ws i → ⊥) → eqb (bit_at (get_or ws (i / 64) 0) (i % 64)) 1 ≡ false
test_off ws i h = ne_eqb (bit_at (get_or ws (i / 64) 0) (i % 64)) 1 h

held_on : (ws : List ℕ) (n k : ℕ) → HasBit ws n → held ws n (suc k) ≡ n ∷ held ws (suc n) k
held_on ws n k h = rw (test_on ws n h) refl

held_off : (ws : List ℕ) (n k : ℕ) → (HasBit ws n → ⊥) → held ws n (suc k) ≡ held ws (suc n) k
held_off ws n k h = rw (test_off ws n h) refl

-- the list from the least number on
pub held_some : (ws : List ℕ) (n k i m : ℕ) → n ≤ i → i + 1 + m ≡ n + k → HasBit ws i → ((j : ℕ) → n ≤ j → j < i → HasBit ws j → ⊥) → held ws n k ≡ i ∷ held ws (suc i) m
held_some ws n zero i m from e h none = absurd (omega arith)
held_some ws n (suc k) i m from e h none = elim (cases_eq n i) [
  | inl same ↦
      let size : k ≡ m = omega arith in
      held_on ws n k (rw same h) ∙ rw (same, size) refl
  | inr other ↦ held_off ws n k (none n (omega arith) (omega arith)) ∙ held_some ws (suc n) k i m (omega arith) (omega arith) h (λ j a b. none j (omega arith) b)
]

pub held_none : (ws : List ℕ) (n k : ℕ) → ((j : ℕ) → n ≤ j → HasBit ws j → ⊥) → held ws n k ≡ []
held_none ws n zero none = refl
held_none ws n (suc k) none = held_off ws n k (none n (omega arith)) ∙ held_none ws (suc n) k (λ j a. none j (omega arith))

-- a larger set has no fewer numbers
pub length_held_le : (xs ys : List ℕ) (n k : ℕ) → ((j : ℕ) → HasBit xs j → HasBit ys j) → length (held xs n k) ≤ length (held ys n k)
length_held_le xs ys n zero sub = omega arith
length_held_le xs ys n (suc k) sub =
    let rest : length (held xs (suc n) k) ≤ length (held ys (suc n) k) = length_held_le xs ys (suc n) k sub in
    elim (held_cases xs n) [
      | inl on ↦ rw (held_on xs n k on, held_on ys n k (sub n on)) (omega arith)
      | inr off ↦ rw (held_off xs n k off) (elim (held_cases ys n) [
        | inl on ↦ rw (held_on ys n k on) (omega arith)
        | inr gone ↦ rw (held_off ys n k gone) rest
      ])
    ]

-- a set with a number more has more of them
pub length_held_lt : (xs ys : List ℕ) (n k i : ℕ) → ((j : ℕ) → HasBit xs j → HasBit ys j) → n ≤ i → i < n + k → HasBit ys i → (HasBit xs i → ⊥) → length (held xs n k) < length (held ys n k)
length_held_lt xs ys n zero i sub from to new old = absurd (omega arith)
length_held_lt xs ys n (suc k) i sub from to new old = elim (cases_eq n i) [
  | inl same ↦
      let rest : length (held xs (suc n) k) ≤ length (held ys (suc n) k) = length_held_le xs ys (suc n) k sub in
      rw (held_off xs n k (rw same old), held_on ys n k (rw same new)) (omega arith)
  | inr other ↦
      let rest : length (held xs (suc n) k) < length (held ys (suc n) k) = length_held_lt xs ys (suc n) k i sub (omega arith) (omega arith) new old in
      elim (held_cases xs n) [
        | inl on ↦ rw (held_on xs n k on, held_on ys n k (sub n on)) (omega arith)
        | inr off ↦ rw (held_off xs n k off) (elim (held_cases ys n) [
          | inl on ↦ rw (held_on ys n k on) (omega arith)
          | inr gone ↦ rw (held_off ys n k gone) rest
        ])
      ]
]

-- the list from a place on, up to a length
pub held_next : (ws : List ℕ) (len at i : ℕ) → at ≤ i → i < len → HasBit ws i → ((j : ℕ) → at ≤ j → j < i → HasBit ws j → ⊥) → held ws at (len - at) ≡ i ∷ held ws (i + 1) (len - (i + 1))
held_next ws len at i from below on least = rw add-one (held_some ws at (len - at) i (len - suc i) from (omega arith) on least)
