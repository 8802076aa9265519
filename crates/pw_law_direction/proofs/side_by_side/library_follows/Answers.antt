use Rattle.pw_law_direction.proofs.Library.{library-calls-follow}
use Rattle.pw_law_direction.proofs.side_by_side.library_follows.Goals as goal

pub returns : goal.returns
returns c = library-calls-follow
