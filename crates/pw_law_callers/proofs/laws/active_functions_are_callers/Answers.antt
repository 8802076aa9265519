use Rattle.pw_law_callers.proofs.Standing.{entered_callers}
use Rattle.pw_law_callers.proofs.laws.active_functions_are_callers.Goals as goal

pub returns : goal.returns
returns c = entered_callers
