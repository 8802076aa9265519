use Rattle.pw_law_lower.proofs.Laws.{function_fits}
use Rattle.pw_law_lower.proofs.functions.frames_fit.Goals as goal

pub returns-clause-functions : goal.returns-clause-functions
returns-clause-functions c = function_fits
