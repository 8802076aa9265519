use Rattle.pw_law_linked.proofs.Apart.{all_apart}
use Rattle.pw_law_linked.proofs.pieces_stand_apart.Goals as goal

pub returns : goal.returns
returns c = all_apart
