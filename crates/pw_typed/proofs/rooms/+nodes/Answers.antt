-- The arguments of a call stand in a list.
use Rattle.std.proofs.Common.{arith}
use Rattle.std.proofs.lemmas.Grind.{common_steps}
use Rattle.pw_typed.proofs.Rows.{call_view, call_value_view}
use Rattle.pw_typed.proofs.rooms.+nodes.Goals as goal

pub other_nodes-returns-in-Call : goal.other_nodes-returns-in-Call
other_nodes-returns-in-Call t c = grind (arith, common_steps, call_view)

pub other_nodes-returns-in-CallValue : goal.other_nodes-returns-in-CallValue
other_nodes-returns-in-CallValue t c = grind (arith, common_steps, call_value_view)
