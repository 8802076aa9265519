use Rattle.pw_law_select_kept.proofs.Keeping.{functions_enter_as_found}
use Rattle.pw_law_select_kept.proofs.functions_enter_as_found.Goals as goal

pub returns : goal.returns
returns c = functions_enter_as_found
