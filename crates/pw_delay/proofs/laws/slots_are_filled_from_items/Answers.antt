use Rattle.pw_delay.proofs.Keeping.{filled_from}
use Rattle.pw_delay.proofs.laws.slots_are_filled_from_items.Goals as goal

pub returns : goal.returns
returns c = filled_from
