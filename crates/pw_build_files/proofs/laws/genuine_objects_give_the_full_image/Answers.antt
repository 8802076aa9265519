use Rattle.pw_build_files.proofs.FullLaws.{full_image}
use Rattle.pw_build_files.proofs.laws.genuine_objects_give_the_full_image.Goals as goal

pub returns : goal.returns
returns c = full_image c.genuine_objects_give_the_full_build.ensures
