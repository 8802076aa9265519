-- The parts of a block and the arms of an `if` stand in lists.
use Rattle.std.proofs.Common.{arith}
use Rattle.std.proofs.lemmas.Grind.{common_steps}
use Rattle.pw_typed.proofs.Rows.{block_view, if_view}
use Rattle.pw_typed.proofs.rooms.+stmt_nodes.Goals as goal

pub stmt_nodes-returns-in-Block : goal.stmt_nodes-returns-in-Block
stmt_nodes-returns-in-Block t c = grind (arith, common_steps, block_view)

pub stmt_nodes-returns-in-If : goal.stmt_nodes-returns-in-If
stmt_nodes-returns-in-If t c = grind (arith, common_steps, if_view)
