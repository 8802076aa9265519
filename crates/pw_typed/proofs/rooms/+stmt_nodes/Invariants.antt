use Rattle.std.proofs.Common.{◌≡◌, ◌+◌, drop}
use Rattle.pw_value.specs.Caps.{capped}
use Rattle.pw_types.specs.Rooms as spec
use Rattle.pw_typed.specs.Views as view
use Rattle.pw_typed.proofs.rooms.+stmt_nodes.Given as goal

-- what is left is still to be counted
abbrev pub invariant-arm_nodes-loop-arm : goal.invariant-arm_nodes-loop-arm
invariant-arm_nodes-loop-arm l =
    (capped (l.nodes + spec.arm_nodes (view.view_arms (drop l.arm-index l.arms))) ≡ capped (spec.arm_nodes (view.view_arms l.arms)))
    × (l.nodes ≡ capped l.nodes)

abbrev pub invariant-nodes_of_statements-loop-s : goal.invariant-nodes_of_statements-loop-s
invariant-nodes_of_statements-loop-s l =
    (capped (l.nodes + spec.nodes_of_statements (view.view_stmts (drop l.s-index l.all))) ≡ capped (spec.nodes_of_statements (view.view_stmts l.all)))
    × (l.nodes ≡ capped l.nodes)
