use Rattle.pw_law_build.proofs.WholeLemmas.{holds_build}
use Rattle.pw_law_build.proofs.left.a_build_leaves_its_program.Goals as goal

pub returns : goal.returns
returns c = holds_build (record { inserted = c.other_files.ensures.inserted; insertion = c.other_files.ensures.insertion })
