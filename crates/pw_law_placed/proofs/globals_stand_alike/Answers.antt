use Rattle.pw_law_placed.proofs.Standing.{globals_same}
use Rattle.pw_law_placed.proofs.globals_stand_alike.Goals as goal

pub returns : goal.returns
returns c = globals_same
