use Rattle.pw_law_direction.proofs.Saving.{saves-at-starts}
use Rattle.pw_law_direction.proofs.Callees.{same-functions}
use Rattle.pw_law_direction.proofs.side_by_side.starts_match.Goals as goal

pub returns-clause-saves : goal.returns-clause-saves
returns-clause-saves c = saves-at-starts

pub returns-clause-functions : goal.returns-clause-functions
returns-clause-functions c = same-functions
