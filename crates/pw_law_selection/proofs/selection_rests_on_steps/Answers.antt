use Rattle.pw_law_selection.proofs.Running.{selection_rests_on_steps}
use Rattle.pw_law_selection.proofs.selection_rests_on_steps.Goals as goal

pub returns : goal.returns
returns c = selection_rests_on_steps c.pointers_are_known.ensures.known
