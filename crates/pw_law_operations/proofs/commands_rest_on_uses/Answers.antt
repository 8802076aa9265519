use Rattle.pw_law_operations.proofs.Asking.{commands_rest_on_uses}
use Rattle.pw_law_operations.proofs.commands_rest_on_uses.Goals as goal

pub returns : goal.returns
returns c = commands_rest_on_uses
