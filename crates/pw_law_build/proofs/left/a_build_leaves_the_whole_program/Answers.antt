use Rattle.pw_law_build.proofs.WholeLemmas.{holds_full_build}
use Rattle.pw_law_build.proofs.left.a_build_leaves_the_whole_program.Goals as goal

pub returns : goal.returns
returns c = holds_full_build (record { inserted = c.other_files.ensures.inserted; insertion = c.other_files.ensures.insertion }) c.genuine_objects_give_the_full_build.ensures
