use Rattle.pw_law_direction.proofs.Running.{states_fine}
use Rattle.pw_law_direction.proofs.directed.directed_values_are_fine.Goals as goal

pub returns : goal.returns
returns c = states_fine
