use Rattle.pw_law_room.proofs.Running.{runs_have_room}
use Rattle.pw_law_room.proofs.laws.active_calls_have_room.Goals as goal

pub returns : goal.returns
returns c = runs_have_room c.active_calls_are_noted.ensures
