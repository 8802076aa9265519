use Rattle.std.proofs.Common.{◌≡◌, ◌≤◌, ◌++◌, length, map}
use Rattle.pw_cpp_sets.specs.Sets.{set_at, sets_of}
use Rattle.pw_cpp_sets.proofs.Nodes.{said}
use Rattle.pw_cpp_sets.proofs.sets.names_of.Given as goal

-- what was found and the set that is left are the whole one
abbrev pub invariant-loop-node : goal.invariant-loop-node
invariant-loop-node l = (l.number ≤ length l.nodes) × (map said l.names.items ++ set_at (sets_of l.nodes) l.number ≡ set_at (sets_of l.nodes) l.set)

abbrev pub decreases-loop-node : goal.decreases-loop-node
decreases-loop-node l = l.number
