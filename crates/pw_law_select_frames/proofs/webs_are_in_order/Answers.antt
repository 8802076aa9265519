use Rattle.pw_law_select_frames.proofs.Webs.{loaded_in_order, stored_in_order}
use Rattle.pw_law_select_frames.proofs.webs_are_in_order.Goals as goal

pub returns-clause-loaded : goal.returns-clause-loaded
returns-clause-loaded c = loaded_in_order

pub returns-clause-stored : goal.returns-clause-stored
returns-clause-stored c = stored_in_order
