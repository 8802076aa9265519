use Rattle.std.proofs.Common.{rules}
use Rattle.pw_interp_operands.proofs.NodeLaws.{binary_is}
use Rattle.pw_interp_todo.specs.Operands.{right_behind}
use Rattle.pw_interp_todo.proofs.LeadLaws.{followed, leaves, named, then_more, then_stops}
use Rattle.pw_interp_operands.proofs.answers.binary.Goals as goal

pub returns-in_err-left : goal.returns-in_err-left
unfolding right_behind
returns-in_err-left c w op a is bound =
    followed (named (binary_is _ _ _ _ _ _ _ _ is))
    (then_stops _ (c.used.ensures.answers _) c.in_err-left.was (search rules))

pub returns : goal.returns
unfolding right_behind
returns c w op a is bound =
    followed (named (binary_is _ _ _ _ _ _ _ _ is))
    (then_more _ (c.used.ensures.answers _) c.in_ok-left.was
    (leaves _))
