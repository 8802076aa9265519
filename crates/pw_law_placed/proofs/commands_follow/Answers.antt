use Rattle.pw_law_placed.proofs.Operations.{commands_follow}
use Rattle.pw_law_placed.proofs.commands_follow.Goals as goal

pub returns : goal.returns
returns c = commands_follow
