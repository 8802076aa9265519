use Rattle.pw_law_refine_steps.proofs.Results.{results}
use Rattle.pw_law_refine_steps.proofs.results_are_new.Goals as goal

pub returns : goal.returns
returns c = results
