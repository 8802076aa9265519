use Rattle.std.proofs.Common.{refl, rules}
use Rattle.pw_interp_todo.specs.Operands.{answer_behind}
use Rattle.pw_interp_todo.proofs.LeadLaws.{last_gives, last_stops}
use Rattle.pw_interp_operands.proofs.answers.cast.Goals as goal

pub returns-in_err-result : goal.returns-in_err-result
unfolding answer_behind
returns-in_err-result c w a bound = last_stops (c.cast.ensures.answers _) c.in_err-result.was (search rules)

pub returns : goal.returns
unfolding answer_behind
returns c w a bound = last_gives _ (c.cast.ensures.answers _) c.in_ok-result.was refl refl
