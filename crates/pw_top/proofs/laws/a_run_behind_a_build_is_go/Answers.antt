use Rattle.pw_top.proofs.BehindLemmas.{is_go}
use Rattle.pw_top.proofs.MeantLemmas.{behind_program}
use Rattle.pw_top.proofs.laws.a_run_behind_a_build_is_go.Goals as goal

pub returns-clause-go : goal.returns-clause-go
returns-clause-go c = is_go c.builds_are_full.ensures c.front.ensures.whole

pub returns-clause-program : goal.returns-clause-program
returns-clause-program c = behind_program c.builds_are_full.ensures c.front.ensures.whole c.images_and_files_are_one_to_one.ensures.one_image
