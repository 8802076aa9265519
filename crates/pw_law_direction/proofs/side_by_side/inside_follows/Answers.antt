use Rattle.pw_law_direction.proofs.Runs.{inside-follows}
use Rattle.pw_law_direction.proofs.side_by_side.inside_follows.Goals as goal

pub returns : goal.returns
returns c = inside-follows c.taken_functions_are_fine.ensures
