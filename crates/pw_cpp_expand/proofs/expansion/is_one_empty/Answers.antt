use Rattle.std.proofs.Common.{◌≡◌, ◌↔◌, [], ◌∷◌, IsTrue, List, ap, length, subst, arith}
use Rattle.pw_cpp_expand.specs.declared.progress.Lexeme.{Lexeme}
use Rattle.pw_cpp_expand.proofs.Results.{not-one, one-empty}
use Rattle.pw_cpp_expand.proofs.expansion.is_one_empty.Goals as goal

pub returns-then-all-ne1 : goal.returns-then-all-ne1
returns-then-all-ne1 c = not-one c.args.arguments.now (λ e. absurd (omega (arith, e, c.if-all-ne1.true, ap length c.as_slice-all.ensures)))

pub returns : goal.returns
returns c =
    let P : List (List Lexeme) → Type 0 = λ xs. IsTrue c.is_empty.result ↔ (xs ≡ [] ∷ []) in
    subst P c.as_slice-all.ensures (one-empty c.as_slice-all.result.now c.index-all-0.result c.is_empty.result (omega (arith, c.if-all-ne1.false)) c.index-all-0.is c.is_empty.ensures)
