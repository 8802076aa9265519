use Rattle.std.proofs.Common.{arith}
use Rattle.std.proofs.lemmas.Grind.{common_steps}
use Rattle.pw_typed.proofs.NodeLemmas.{sum-nodes}
use Rattle.pw_typed.proofs.rooms.initialiser_nodes.Goals as goal

pub returns-in-Bytes : goal.returns-in-Bytes
returns-in-Bytes c = grind (arith, common_steps, sum-nodes)
