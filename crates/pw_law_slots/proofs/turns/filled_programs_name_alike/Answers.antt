use Rattle.pw_law_slots.proofs.Programs.{named_filled, standing_filled}
use Rattle.pw_law_slots.proofs.turns.filled_programs_name_alike.Goals as goal

pub returns : goal.returns
returns c = record { named = named_filled; standing = standing_filled }
