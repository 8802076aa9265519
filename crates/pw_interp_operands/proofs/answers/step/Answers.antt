use Rattle.std.proofs.Common.{rules}
use Rattle.pw_interp_todo.specs.Operands.{answer_behind}
use Rattle.pw_interp_todo.proofs.LeadLaws.{leaves, need_there, then_more, then_stops}
use Rattle.pw_interp_operands.proofs.answers.step.Goals as goal

pub returns-in_err-place : goal.returns-in_err-place
unfolding answer_behind
returns-in_err-place c bound =
    then_stops _ (need_there _ c.need.ensures) c.in_err-place.was (search rules)

pub returns-in_err-result : goal.returns-in_err-result
unfolding answer_behind
returns-in_err-result c bound =
    then_more _ (need_there _ c.need.ensures) c.in_ok-place.was
    (then_stops _ c.step.ensures c.in_err-result.was (search rules))

pub returns : goal.returns
unfolding answer_behind
returns c bound =
    then_more _ (need_there _ c.need.ensures) c.in_ok-place.was
    (then_more _ c.step.ensures c.in_ok-result.was
    (leaves _))
