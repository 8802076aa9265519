use Rattle.std.proofs.Common.{rules}
use Rattle.pw_interp_todo.specs.Operands.{answer_behind, call_behind}
use Rattle.pw_interp_todo.proofs.LeadLaws.{leaves, then_more, then_stops}
use Rattle.pw_interp_operands.proofs.answers.call_value.Goals as goal

pub returns-in_err-callee : goal.returns-in_err-callee
unfolding answer_behind
returns-in_err-callee c w bound = then_stops _ (c.used.ensures.answers _) c.in_err-callee.was (search rules)

pub returns : goal.returns
unfolding answer_behind call_behind
returns c w bound = then_more _ (c.used.ensures.answers _) c.in_ok-callee.was (leaves _)
