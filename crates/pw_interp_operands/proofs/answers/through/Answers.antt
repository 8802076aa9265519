use Rattle.std.proofs.Common.{refl, rules}
use Rattle.pw_interp_todo.specs.Operands.{answer_behind}
use Rattle.pw_interp_todo.proofs.LeadLaws.{last_gives, last_stops, then_more, then_stops}
use Rattle.pw_interp_operands.proofs.answers.through.Goals as goal

pub returns-in_err-place : goal.returns-in_err-place
unfolding answer_behind
returns-in_err-place c a bound =
    then_stops _ (c.used.ensures.answers _) c.in_err-place.was (search rules)

pub returns-in_err-value : goal.returns-in_err-value
unfolding answer_behind
returns-in_err-value c a bound =
    then_more _ (c.used.ensures.answers _) c.in_ok-place.was
    (last_stops c.value_at.ensures.answers c.in_err-value.was (search rules))

pub returns : goal.returns
unfolding answer_behind
returns c a bound =
    then_more _ (c.used.ensures.answers _) c.in_ok-place.was
    (last_gives _ c.value_at.ensures.answers c.in_ok-value.was refl refl)
