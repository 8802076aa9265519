use Rattle.std.proofs.Common.{◌≡◌, ◌+◌, drop, sum_by}
use Rattle.pw_value.specs.Caps.{capped}
use Rattle.pw_types.specs.Rooms as spec
use Rattle.pw_typed.specs.Views as view
use Rattle.pw_typed.proofs.rooms.nodes_of_initialisers.Given as goal

-- what is left is still to be counted
abbrev pub invariant-loop-initialiser : goal.invariant-loop-initialiser
invariant-loop-initialiser l =
    (capped (l.nodes + sum_by spec.initialiser_nodes (view.view_initialisers (drop l.initialiser-index l.all)))
    ≡ capped (sum_by spec.initialiser_nodes (view.view_initialisers l.all)))
    × (l.nodes ≡ capped l.nodes)
