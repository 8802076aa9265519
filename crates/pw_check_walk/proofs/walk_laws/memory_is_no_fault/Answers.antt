use Rattle.pw_check_walk.proofs.walk_laws.memory_is_no_fault.Goals as goal
use Rattle.pw_check_walk.proofs.KindLaws.{never_memory}

pub returns : goal.returns
returns g c = never_memory
