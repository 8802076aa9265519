use Rattle.pw_law_linked.proofs.KnownFixes.{fixes_known}
use Rattle.pw_law_linked.proofs.relocations_are_known.Goals as goal

pub returns : goal.returns
returns c = fixes_known
