use Rattle.std.proofs.Common.{rules}
use Rattle.pw_interp_todo.specs.Operands.{answer_behind}
use Rattle.pw_interp_todo.proofs.LeadLaws.{leaves, then_more, then_stops}
use Rattle.pw_interp_operands.proofs.answers.unary.Goals as goal

pub returns-in_err-value : goal.returns-in_err-value
unfolding answer_behind
returns-in_err-value c a bound =
    then_stops _ (c.used.ensures.answers _) c.in_err-value.was (search rules)

pub returns-in_err-result : goal.returns-in_err-result
unfolding answer_behind
returns-in_err-result c a bound =
    then_more _ (c.used.ensures.answers _) c.in_ok-value.was
    (then_stops _ c.unary.ensures.answers c.in_err-result.was (search rules))

pub returns : goal.returns
unfolding answer_behind
returns c a bound =
    then_more _ (c.used.ensures.answers _) c.in_ok-value.was
    (then_more _ c.unary.ensures.answers c.in_ok-result.was
    (leaves _))
