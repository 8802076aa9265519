use Rattle.pw_law_operations.proofs.Asking.{results_stand}
use Rattle.pw_law_operations.proofs.commands_have_results.Goals as goal

pub returns : goal.returns
returns c = results_stand
