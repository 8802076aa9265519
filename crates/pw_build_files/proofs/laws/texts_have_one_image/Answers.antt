use Rattle.pw_build_files.proofs.FullLaws.{one_image}
use Rattle.pw_build_files.proofs.laws.texts_have_one_image.Goals as goal

pub returns : goal.returns
returns c = one_image c.modules_have_one_build.ensures.answer c.images_and_files_are_one_to_one.ensures.one_file
