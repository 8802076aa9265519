use Rattle.std.proofs.Common.{rules}
use Rattle.pw_interp_todo.specs.Operands.{place_behind}
use Rattle.pw_interp_todo.proofs.LeadLaws.{leaves, need_there, then_more, then_stops}
use Rattle.pw_interp_operands.proofs.places.member.Goals as goal

pub returns-in_err-whole : goal.returns-in_err-whole
unfolding place_behind
returns-in_err-whole c ty a bound =
    then_stops _ (need_there _ c.need.ensures) c.in_err-whole.was (search rules)

pub returns-in_err-place : goal.returns-in_err-place
unfolding place_behind
returns-in_err-place c ty a bound =
    then_more _ (need_there _ c.need.ensures) c.in_ok-whole.was
    (then_stops _ c.advance.ensures.answers c.in_err-place.was (search rules))

pub returns : goal.returns
unfolding place_behind
returns c ty a bound =
    then_more _ (need_there _ c.need.ensures) c.in_ok-whole.was
    (then_more _ c.advance.ensures.answers c.in_ok-place.was
    (leaves _))
