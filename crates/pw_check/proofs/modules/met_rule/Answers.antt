use Rattle.std.proofs.Common.{refl, rules}
use Rattle.pw_check_walk.proofs.CallLaws.{step_ok, step_err}
use Rattle.pw_check_labels.proofs.Steps.{from, regroup}
use Rattle.pw_check.specs.Parts.{met_rule}
use Rattle.pw_check.proofs.modules.met_rule.Goals as goal

pub returns-in_err-externals_rule : goal.returns-in_err-externals_rule
unfolding met_rule
returns-in_err-externals_rule c =
    regroup _ _ _ (step_err _ (rw c.deref.ensures.value at c.externals_rule.ensures) c.in_err-externals_rule.was (search rules))

pub returns : goal.returns
unfolding met_rule
returns c =
    regroup _ _ _
    (step_ok _ (rw c.deref.ensures.value at c.externals_rule.ensures) c.in_ok-externals_rule.was (from _ c.linked.ensures refl c.end_rule.ensures.follows))
