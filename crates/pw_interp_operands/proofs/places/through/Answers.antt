use Rattle.std.proofs.Common.{rules}
use Rattle.pw_interp_todo.specs.Operands.{place_behind}
use Rattle.pw_interp_todo.proofs.LeadLaws.{leaves, then_more, then_stops}
use Rattle.pw_interp_operands.proofs.places.through.Goals as goal

pub returns-in_err-place : goal.returns-in_err-place
unfolding place_behind
returns-in_err-place c w ty a bound =
    then_stops _ (c.used.ensures.answers _) c.in_err-place.was (search rules)

pub returns : goal.returns
unfolding place_behind
returns c w ty a bound =
    then_more _ (c.used.ensures.answers _) c.in_ok-place.was
    (leaves _)
