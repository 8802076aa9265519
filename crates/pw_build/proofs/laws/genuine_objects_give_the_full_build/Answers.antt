use Rattle.pw_build.proofs.BuildLaws.{full_build}
use Rattle.pw_build.proofs.laws.genuine_objects_give_the_full_build.Goals as goal

pub returns : goal.returns
returns c = full_build c.genuine_objects_change_nothing.ensures
