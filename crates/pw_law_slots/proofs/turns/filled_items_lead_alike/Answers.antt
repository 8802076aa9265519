use Rattle.pw_law_slots.proofs.Leading.{blocks_found, turns_left}
use Rattle.pw_law_slots.proofs.turns.filled_items_lead_alike.Goals as goal

pub returns : goal.returns
returns c = record { blocks = blocks_found; turns = turns_left }
