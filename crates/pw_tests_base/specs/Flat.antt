-- The flat order of numbers: 0 is below each, the greatest of 32 bits is above each, and no other two compare.
use Rattle.std.specs.Prelude.{◌≡◌, ℕ, ◌+◌, ◌≤◌, ◌⊎◌, ◌==◌, if◌then◌else◌, Bool, true, false, nat_lt}
use Rattle.std.proofs.Common.{inl, inr, refl, sym, ◌∙◌, subst, arith}
use Rattle.pw_fix.specs.Order.{IsPreorder}

abbrev pub IsFlatBelow : ℕ → ℕ → Type 0
IsFlatBelow a b = (a ≡ b) ⊎ ((a ≡ 0) ⊎ (b ≡ 4294967295))

abbrev pub flat_rank : ℕ → ℕ
flat_rank a = if (a == 0) then 0 else (if (a == 4294967295) then 2 else 1)

-- 0 is not the greatest
apart : (a : ℕ) → a ≡ 0 → a ≡ 4294967295 → ⊥
apart a low high = omega arith

flat_trans : (a b c : ℕ) → IsFlatBelow a b → IsFlatBelow b c → IsFlatBelow a c
flat_trans a b c f g = elim f [
  | inl same ↦ subst (λ k. IsFlatBelow k c) (sym same) g
  | inr r ↦ elim r [
    | inl low ↦ inr (inl low)
    | inr high ↦ elim g [
      | inl same ↦ inr (inr (sym same ∙ high))
      | inr s ↦ elim s [ inl low ↦ absurd (apart b low high) | inr top ↦ inr (inr top) ]
    ]
  ]
]

pub flat_order : IsPreorder {E = ℕ} (λ _. Unit {0}) IsFlatBelow
flat_order = record { reflexive = λ a _. inl refl; transitive = λ a b c _ _ _ f g. flat_trans a b c f g }

-- a choice that does not look at the value rises with it
choice_by : (t : Bool) (c x y a b : ℕ) → IsFlatBelow x y → a ≡ (if t then c else x) → b ≡ (if t then c else y) → IsFlatBelow a b
choice_by true c x y a b f ea eb = inl (ea ∙ sym eb)
choice_by false c x y a b f ea eb = subst (λ k. IsFlatBelow k b) (sym ea) (subst (λ k. IsFlatBelow x k) (sym eb) f)

pub choice_monotone : (n x y a b : ℕ) → IsFlatBelow x y → a ≡ (if (nat_lt n 2) then (n + 1) else x) → b ≡ (if (nat_lt n 2) then (n + 1) else y) → IsFlatBelow a b
choice_monotone n x y a b f ea eb = choice_by (nat_lt n 2) (n + 1) x y a b f ea eb

rank_by : (s t : Bool) → (if s then 0 else (if t then 2 else 1)) ≤ 2
rank_by true t = omega arith
rank_by false true = omega arith
rank_by false false = omega arith

pub flat_rank_fits : (a : ℕ) → flat_rank a ≤ 2
flat_rank_fits a = rank_by (a == 0) (a == 4294967295)
