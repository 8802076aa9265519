use Rattle.pw_law_walk.proofs.Walking.{value_is_held}
use Rattle.pw_law_walk.proofs.laws.values_are_held.Goals as goal

pub returns : goal.returns
returns c = value_is_held
