use Rattle.pw_top.proofs.MeantLemmas.{go_program}
use Rattle.pw_top.proofs.laws.go_does_what_the_program_does.Goals as goal

pub returns : goal.returns
returns c = go_program c.builds_are_full.ensures c.images_and_files_are_one_to_one.ensures.one_image
