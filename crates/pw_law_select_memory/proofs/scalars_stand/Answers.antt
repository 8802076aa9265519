use Rattle.pw_law_select_memory.proofs.Stand.{stored_stands, loaded_stands}
use Rattle.pw_law_select_memory.proofs.scalars_stand.Goals as goal

pub returns-clause-stored : goal.returns-clause-stored
returns-clause-stored c = stored_stands

pub returns-clause-loaded : goal.returns-clause-loaded
returns-clause-loaded c = loaded_stands
