-- The loop over the levels of an expression.
use Rattle.std.proofs.Common.{◌≡◌, ℕ, zero, suc, ◌+◌, ◌-◌, ◌<◌, ◌≤◌, false, nat_le, if◌then◌else◌, Ok, Err, refl, ap, ◌∙◌, arith}
use Rattle.pw_tree.specs.Trees.{Expr}
use Rattle.std.proofs.lemmas.Bool.Decides.{nat_tests}
use Rattle.pw_parse_grammar.specs.Expressions.{above_cast, goes_on, expr_of, unary_expr}
use Rattle.pw_parse_grammar.specs.Input.{Input, and_then}
use Rattle.pw_parse_grammar.specs.Parts.{Parts}

module _ (p : Parts) (i : Input) where
  pub one_more_level : (k : ℕ) {e : Expr} {j : Input} → above_cast p k i ≡ Ok (e, j) → above_cast p (suc k) i ≡ goes_on p (k + 4) e j
  unfolding above_cast
  one_more_level k read = ap (λ o. and_then o (goes_on p (k + 4))) read

  wrong_from : (k m : ℕ) {j : Input} → above_cast p k i ≡ Err j → (n : ℕ) → n ≡ k + m → above_cast p n i ≡ Err j
  unfolding above_cast
  wrong_from k zero wrong n e = let s : n ≡ k = omega arith in ap (λ n. above_cast p n i) s ∙ wrong
  wrong_from k (suc m) wrong n e =
      let s : n ≡ suc (k + m) = omega arith in
      ap (λ n. above_cast p n i) s ∙ ap (λ o. and_then o (goes_on p (k + m + 4))) (wrong_from k m wrong (k + m) refl)

  -- a fault at a level is one at each level above
  pub wrong_above : (k n : ℕ) {j : Input} → k ≤ n → above_cast p k i ≡ Err j → above_cast p n i ≡ Err j
  wrong_above k n below wrong = let e : n ≡ k + (n - k) = omega arith in wrong_from k (n - k) wrong n e

-- from the level of casts on
pub levels : (p : Parts) (k : ℕ) (i : Input) → 2 < k → expr_of p k i ≡ above_cast p (k - 3) i
unfolding expr_of
levels p k i above = let e : nat_le k 2 ≡ false = grind (arith, nat_tests) in ap (λ b. (if b then unary_expr p else above_cast p (k - 3)) i) e
