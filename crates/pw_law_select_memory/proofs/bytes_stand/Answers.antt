use Rattle.pw_law_select_memory.proofs.Stand.{part_stands, new_stands, old_stands, alike_stands}
use Rattle.pw_law_select_memory.proofs.bytes_stand.Goals as goal

pub returns-clause-part : goal.returns-clause-part
returns-clause-part c = part_stands

pub returns-clause-new : goal.returns-clause-new
returns-clause-new c = new_stands

pub returns-clause-old : goal.returns-clause-old
returns-clause-old c = old_stands

pub returns-clause-alike : goal.returns-clause-alike
returns-clause-alike c = alike_stands
