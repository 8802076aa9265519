use Rattle.std.proofs.Common.{rules}
use Rattle.pw_check_walk.proofs.CallLaws.{step_ok, step_err}
use Rattle.pw_check_labels.proofs.Steps.{regroup}
use Rattle.pw_check_functions.specs.Bodies.{behind_head}
use Rattle.pw_check_functions.proofs.functions.behind_head.Goals as goal

pub returns-in_err-head_meets : goal.returns-in_err-head_meets
unfolding behind_head
returns-in_err-head_meets c =
    regroup _ _ _ (step_err _ (rw c.deref.ensures.value at c.head_meets.ensures) c.in_err-head_meets.was (search rules))

pub returns-in_err-place : goal.returns-in_err-place
unfolding behind_head
returns-in_err-place c =
    regroup _ _ _
    (step_ok _ (rw c.deref.ensures.value at c.head_meets.ensures) c.in_ok-head_meets.was
    (step_err _ c.head_declared.ensures c.in_err-place.was (search rules)))

pub returns : goal.returns
unfolding behind_head
returns c =
    regroup _ _ _
    (step_ok _ (rw c.deref.ensures.value at c.head_meets.ensures) c.in_ok-head_meets.was
    (step_ok _ c.head_declared.ensures c.in_ok-place.was c.body_rule.ensures))
