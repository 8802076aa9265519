use Rattle.std.proofs.Common.{◌≡◌, ℕ, ◌+◌, ◌<◌, ◌≤◌, inr, refl, ap, subst, ◌∙◌}
use Rattle.pw_cpp_expand.specs.Lookahead.{output_limit}
use Rattle.pw_cpp_expand.specs.Numbered.{room_of}
use Rattle.pw_cpp_expand.specs.declared.progress.Mode.{Mode}
use Rattle.pw_cpp_expand.proofs.expansion.Expander.put_out.Goals as goal

pub returns-in_default : goal.returns-in_default
returns-in_default c =
    let P : Mode → Type 0 = λ m. output_limit < c.args.progress.now.size + room_of m c.args.lexeme in
    inr (refl, subst P c.mode_in-mode.ensures c.in_default.ensures)

pub returns : goal.returns
returns c =
    let room = ap (λ m. c.args.progress.now.size + room_of m c.args.lexeme) c.mode_in-mode.ensures in
    let size = c.in-Some.ensures.0 ∙ room in
    let P : ℕ → Type 0 = λ n. n ≤ output_limit in (
      ap (λ x. record c.args.self.now { out = x }) c.in_ok-push.ensures,
      ap (λ n. record c.args.progress.now { size = n }) size,
      subst P size c.in-Some.ensures.1,
    )
