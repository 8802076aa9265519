use Rattle.pw_law_refine_start.proofs.Objects.{stand, globals_at, all_bytes, all_sizes}
use Rattle.pw_law_refine_start.proofs.objects_stand_at_start.Goals as goal

pub returns-clause-memory : goal.returns-clause-memory
returns-clause-memory c = λ world lowerable. stand world.program world.frame_of world.stack lowerable.program

pub returns-clause-globals : goal.returns-clause-globals
returns-clause-globals c = λ world g lowerable lt. globals_at world.program world.frame_of world.stack lowerable.program g lt

pub returns-clause-bytes : goal.returns-clause-bytes
returns-clause-bytes c = λ world lowerable. all_bytes world.program world.frame_of world.stack lowerable.program

pub returns-clause-sizes : goal.returns-clause-sizes
returns-clause-sizes c = λ world lowerable. all_sizes world.program world.frame_of world.stack lowerable.program
