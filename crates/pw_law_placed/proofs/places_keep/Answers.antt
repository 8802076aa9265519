use Rattle.pw_law_placed.proofs.Running.{places_keep}
use Rattle.pw_law_placed.proofs.places_keep.Goals as goal

pub returns : goal.returns
returns c = places_keep c.directed_values_are_fine.ensures c.starts_follow.ensures c.steps_follow.ensures
