use Rattle.pw_law_refine_start.proofs.Functions.{same_number}
use Rattle.pw_law_refine_start.proofs.Objects.{same_place}
use Rattle.pw_law_refine_start.proofs.names_have_one_number.Goals as goal

pub returns-clause-functions : goal.returns-clause-functions
returns-clause-functions c = λ world name lowerable. same_number world.program world.frame_of world.stack lowerable.program name

pub returns-clause-objects : goal.returns-clause-objects
returns-clause-objects c = λ world name. same_place world.program world.frame_of world.stack name
