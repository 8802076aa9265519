use Rattle.pw_build_files.proofs.GenuineLemmas.{part_keeps}
use Rattle.pw_build_files.proofs.laws.genuine_files_keep_genuine.Goals as goal

pub returns : goal.returns
returns c =
    part_keeps (record { inserted = c.other_files.ensures.inserted; removed = c.other_files.ensures.removed; insertion = c.other_files.ensures.insertion; removal = c.other_files.ensures.removal })
