use Rattle.pw_law_direction.proofs.Webless.{none_unsound}
use Rattle.pw_law_direction.proofs.undirected.no_webs_are_sound.Goals as goal

pub returns : goal.returns
returns c = none_unsound
