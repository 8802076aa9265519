use Rattle.pw_check_walk.proofs.Turns.{turn_made}
use Rattle.pw_check_walk.proofs.turn_laws.turns_follow.Goals as goal

pub returns : goal.returns
returns g c = turn_made
