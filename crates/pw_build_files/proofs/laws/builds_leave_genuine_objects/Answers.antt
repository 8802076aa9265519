use Rattle.pw_build_files.proofs.FullLaws.{genuine_left}
use Rattle.pw_build_files.proofs.laws.builds_leave_genuine_objects.Goals as goal

pub returns : goal.returns
returns c = genuine_left (record { inserted = c.other_files.ensures.inserted; removed = c.other_files.ensures.removed; insertion = c.other_files.ensures.insertion; removal = c.other_files.ensures.removal })
