-- Shapes that agree, and shapes of functions.
use Rattle.std.proofs.Common.{◌≡◌, ◌⊎◌, ℕ, List, ◌∷◌, sym, ◌∙◌, arith, inl, inr}
use Rattle.pw_value.specs.Shapes.{Agree, Begins}
use Rattle.pw_law_answers.proofs.Agreeing.{told_agree}

pub agree_unless : (a b : List ℕ) → (¬ Agree a b → ⊥) → Agree a b
agree_unless a b h = elim (told_agree a b) [ inl k ↦ k | inr none ↦ absurd (h none) ]

pub agree_back : (a b : List ℕ) → Agree a b → Agree b a
agree_back a b (inl e) = inl (sym e)
agree_back a b (inr (inl g)) = inr (inr g)
agree_back a b (inr (inr g)) = inr (inl g)

-- ---- shapes of functions agree only with themselves

other_first : (n k : ℕ) (s rest more : List ℕ) → s ≡ n ∷ rest → s ≡ k ∷ more → n ≡ k
other_first n k s rest more e d = let same : n ∷ rest ≡ k ∷ more = sym e ∙ d in cc

pub function_agree : (a b : List ℕ) → Agree a b → Begins 102 b → a ≡ b
function_agree a b (inl e) f = e
function_agree a b (inr (inl g)) f = let h : 91 ≡ 102 = other_first 91 102 b g.1 f.0 g.2.1 f.1 in absurd (omega (arith, h))
function_agree a b (inr (inr g)) f = let h : 91 ≡ 102 = other_first 91 102 b (93 ∷ g.0) f.0 g.2.0 f.1 in absurd (omega (arith, h))
