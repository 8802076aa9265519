-- Levels: sets of numbers below a bound, each made of the one before by a step that rises with it, from none on. They
-- rise, and stay as they are from the level of the bound on.
use Rattle.std.proofs.Common.{◌≡◌, ◌⊎◌, ℕ, zero, suc, ◌+◌, ◌-◌, ◌<◌, ◌≤◌, Bool, true, false, refl, sym, ap, subst, ◌∙◌, arith, inl, inr}
use Rattle.std.proofs.lemmas.Bool.{cases_Bool, cases_eq}

-- ---- how many of the numbers below a bound are in a set

abbrev one : Bool → ℕ
one true = 1
one false = 0

abbrev count : (ℕ → Bool) → ℕ → ℕ
count g zero = 0
count g (suc n) = one (g n) + count g n

one_at_most : (x : Bool) → one x ≤ 1
one_at_most true = omega arith
one_at_most false = omega arith

count_within : (g : ℕ → Bool) (n : ℕ) → count g n ≤ n
count_within g zero = omega arith
count_within g (suc n) = let h = count_within g n in let o = one_at_most (g n) in omega arith

one_of : (x : Bool) → x ≡ true → one x ≡ 1
one_of x e = ap one e

none_of : (x : Bool) → x ≡ false → one x ≡ 0
none_of x e = ap one e

-- all of them are, where the count is the bound
count_full : (g : ℕ → Bool) (n b : ℕ) → n ≤ count g n → b < n → g b ≡ true
count_full g zero b full lt = absurd (omega (arith, lt))
count_full g (suc n) b full lt =
    let whole : suc n ≤ one (g n) + count g n = full in
    let within = count_within g n in
    let o = one_at_most (g n) in
    let rest : n ≤ count g n = omega (arith, whole, o) in
    elim (cases_Bool (g n)) [
      | inl e ↦ elim (cases_eq b n) [ inl same ↦ ap g same ∙ e | inr other ↦ count_full g n b rest (omega arith) ]
      | inr e ↦ let z = none_of (g n) e in absurd (omega (arith, whole, within, z))
    ]

-- of two sets, the second with all of the first, the first has all of the second too, or less of them
same_or_more : (g h : ℕ → Bool) (n : ℕ) → ((b : ℕ) → g b ≡ true → h b ≡ true) → (((b : ℕ) → b < n → h b ≡ true → g b ≡ true) × (count g n ≡ count h n)) ⊎ (count g n < count h n)
same_or_more g h zero up = inl ((λ b lt e. absurd (omega (arith, lt))), refl)
same_or_more g h (suc n) up = elim (cases_Bool (g n)) [
  | inl e ↦
      let one_g = one_of (g n) e in
      let one_h = one_of (h n) (up n e) in
      elim (same_or_more g h n up) [
        | inl same ↦
            let counts = same.1 in
            inl ((λ b lt k. elim (cases_eq b n) [ inl is ↦ ap g is ∙ e | inr other ↦ same.0 b (omega arith) k ]), omega arith)
        | inr less ↦ inr (omega arith)
      ]
  | inr e ↦
      let one_g = none_of (g n) e in
      elim (cases_Bool (h n)) [
        | inl k ↦ let one_h = one_of (h n) k in elim (same_or_more g h n up) [ inl same ↦ let counts = same.1 in inr (omega arith) | inr less ↦ inr (omega arith) ]
        | inr k ↦
            let one_h = none_of (h n) k in
            elim (same_or_more g h n up) [
              | inl same ↦
                  let counts = same.1 in
                  inl ((λ b lt j. elim (cases_eq b n) [ inl is ↦ absurd (let both = sym j ∙ ap h is ∙ k in cc) | inr other ↦ same.0 b (omega arith) j ]), omega arith)
              | inr less ↦ inr (omega arith)
            ]
      ]
]

module _ (step : (ℕ → Bool) → ℕ → Bool) (n : ℕ)
    (rises : (g h : ℕ → Bool) → ((b : ℕ) → g b ≡ true → h b ≡ true) → (b : ℕ) → step g b ≡ true → step h b ≡ true)
    (below : (g : ℕ → Bool) (b : ℕ) → step g b ≡ true → b < n)
    (levels : ℕ → ℕ → Bool)
    (first : (b : ℕ) → levels 0 b ≡ false)
    (next : (k b : ℕ) → levels (suc k) b ≡ step (levels k) b) where
  up : (k b : ℕ) → levels k b ≡ true → levels (suc k) b ≡ true
  up zero b e = absurd (let none = first b in cc)
  up (suc k) b e = next (suc k) b ∙ rises (levels k) (levels (suc k)) (up k) b (sym (next k b) ∙ e)

  abbrev IsLast : ℕ → Type 0
  IsLast k = (b : ℕ) → levels (suc k) b ≡ true → levels k b ≡ true

  stays : (k : ℕ) → IsLast k → IsLast (suc k)
  stays k last b e = next k b ∙ rises (levels (suc k)) (levels k) last b (sym (next (suc k) b) ∙ e)

  grown : (k : ℕ) → IsLast k ⊎ (k ≤ count (levels k) n)
  grown zero = inr (omega arith)
  grown (suc k) = elim (grown k) [
    | inl last ↦ inl (stays k last)
    | inr many ↦ elim (same_or_more (levels k) (levels (suc k)) n (up k)) [
      | inl same ↦ inl (stays k (λ b e. same.0 b (below (levels k) b (sym (next k b) ∙ e)) e))
      | inr more ↦ inr (omega arith)
    ]
  ]

  -- the level of the bound is the last
  pub last_level : (b : ℕ) → levels (suc n) b ≡ true → levels n b ≡ true
  last_level b e = elim (grown n) [ inl last ↦ last b e | inr full ↦ count_full (levels n) n b full (below (levels n) b (sym (next n b) ∙ e)) ]

  last_from : (more : ℕ) → IsLast (n + more)
  last_from zero b e = let z : n + 0 ≡ n = omega arith in subst (λ k. levels k b ≡ true) (sym z) (last_level b (subst (λ k. levels (suc k) b ≡ true) z e))
  last_from (suc more) b e =
      let s : n + suc more ≡ suc (n + more) = omega arith in
      subst (λ k. levels k b ≡ true) (sym s) (stays (n + more) (last_from more) b (subst (λ k. levels (suc k) b ≡ true) s e))

  down : (more b : ℕ) → levels (n + more) b ≡ true → levels n b ≡ true
  down zero b e = let z : n + 0 ≡ n = omega arith in subst (λ k. levels k b ≡ true) z e
  down (suc more) b e = let s : n + suc more ≡ suc (n + more) = omega arith in down more b (last_from more b (subst (λ k. levels k b ≡ true) s e))

  rise : (more b : ℕ) → levels n b ≡ true → levels (n + more) b ≡ true
  rise zero b e = let z : n + 0 ≡ n = omega arith in subst (λ k. levels k b ≡ true) (sym z) e
  rise (suc more) b e = let s : n + suc more ≡ suc (n + more) = omega arith in subst (λ k. levels k b ≡ true) (sym s) (up (n + more) b (rise more b e))

  same_Bool : (x y : Bool) → (x ≡ true → y ≡ true) → (y ≡ true → x ≡ true) → x ≡ y
  same_Bool true y there back = sym (there refl)
  same_Bool false true there back = back refl
  same_Bool false false there back = refl

  -- and all behind it are as it is
  pub levels_stay : (k b : ℕ) → n ≤ k → levels k b ≡ levels n b
  levels_stay k b le =
      let s : k ≡ n + (k - n) = omega (arith, le) in
      ap (λ m. levels m b) s ∙ same_Bool (levels (n + (k - n)) b) (levels n b) (down (k - n) b) (rise (k - n) b)
