use Rattle.pw_law_refine_start.proofs.Functions as functions
use Rattle.pw_law_refine_start.proofs.main_takes_nothing.Goals as goal

pub returns : goal.returns
returns c = λ world main lowerable is. functions.main_takes_nothing world.program world.frame_of world.stack lowerable.program main is
