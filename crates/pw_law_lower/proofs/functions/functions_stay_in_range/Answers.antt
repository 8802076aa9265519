use Rattle.pw_law_lower.proofs.Laws.{function_in_range}
use Rattle.pw_law_lower.proofs.functions.functions_stay_in_range.Goals as goal

pub returns : goal.returns
returns c = function_in_range
