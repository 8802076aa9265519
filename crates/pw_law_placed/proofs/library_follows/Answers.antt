use Rattle.pw_law_placed.proofs.Library.{library_follows}
use Rattle.pw_law_placed.proofs.library_follows.Goals as goal

pub returns : goal.returns
returns c = library_follows
