use Rattle.pw_law_refine_calls.proofs.Counting.{parameters-counted}
use Rattle.pw_law_refine_calls.proofs.parameters_are_counted.Goals as goal

pub returns : goal.returns
returns c = parameters-counted
