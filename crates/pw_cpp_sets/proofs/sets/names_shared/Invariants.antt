use Rattle.std.proofs.Common.{◌≡◌, ◌≤◌, ◌++◌, length, map}
use Rattle.pw_cpp_sets.specs.Sets.{set_at, sets_of, shared}
use Rattle.pw_cpp_sets.proofs.Nodes.{said}
use Rattle.pw_cpp_sets.proofs.sets.names_shared.Given as goal

-- what was found and what the set that is left shares are what the whole one shares
abbrev pub invariant-loop-node : goal.invariant-loop-node
invariant-loop-node l =
    (l.number ≤ length l.nodes)
    × (map said l.names.items ++ shared (set_at (sets_of l.nodes) l.number) (set_at (sets_of l.nodes) l.other) ≡ shared (set_at (sets_of l.nodes) l.one) (set_at (sets_of l.nodes) l.other))

abbrev pub decreases-loop-node : goal.decreases-loop-node
decreases-loop-node l = l.number
