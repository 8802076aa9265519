use Rattle.std.proofs.Common.{refl, rules}
use Rattle.pw_check_walk.proofs.CallLaws.{step_ok, step_err}
use Rattle.pw_check_labels.proofs.Steps.{from, ends}
use Rattle.pw_check_heads.specs.Parts.{head_declared}
use Rattle.pw_check_heads.proofs.heads.head_declared.Goals as goal

pub returns-in_err-place : goal.returns-in_err-place
unfolding head_declared
returns-in_err-place c =
    step_err _ (rw (c.definition_asking-asking.ensures, c.in_ok-ty.ensures) at c.declare_linked.ensures) c.in_err-place.was (search rules)

pub returns : goal.returns
unfolding head_declared
returns c =
    step_ok _ (rw (c.definition_asking-asking.ensures, c.in_ok-ty.ensures) at c.declare_linked.ensures) c.in_ok-place.was (from _ refl c.define_function.ensures (ends refl refl))
