use Rattle.pw_law_checked.proofs.Whole.{sizes}
use Rattle.pw_law_checked.proofs.well_typed.accepted_objects_have_sizes.Goals as goal

pub returns : goal.returns
returns g = sizes
