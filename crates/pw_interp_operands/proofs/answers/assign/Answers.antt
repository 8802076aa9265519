use Rattle.std.proofs.Common.{rules}
use Rattle.pw_interp_operands.proofs.NodeLaws.{assign_is}
use Rattle.pw_interp_todo.specs.Operands.{assigned_behind}
use Rattle.pw_interp_todo.proofs.LeadLaws.{followed, leaves, named, need_there, then_more, then_stops}
use Rattle.pw_interp_operands.proofs.answers.assign.Goals as goal

pub returns-in_err-place : goal.returns-in_err-place
unfolding assigned_behind
returns-in_err-place c w a is bound =
    followed (named (assign_is _ _ _ _ _ _ _ is))
    (then_stops _ (need_there _ c.need.ensures) c.in_err-place.was (search rules))

pub returns : goal.returns
unfolding assigned_behind
returns c w a is bound =
    followed (named (assign_is _ _ _ _ _ _ _ is))
    (then_more _ (need_there _ c.need.ensures) c.in_ok-place.was
    (leaves _))
