use Rattle.std.proofs.Common.{◌≡◌, ◌≤◌, length}
use Rattle.pw_cpp_sets.specs.Sets.{contains, set_at, sets_of}
use Rattle.pw_cpp_sets.proofs.sets.is_in.Given as goal

-- the set that is left has the name if the whole one has
abbrev pub invariant-loop-node : goal.invariant-loop-node
invariant-loop-node l = (l.number ≤ length l.nodes) × (contains (set_at (sets_of l.nodes) l.number) l.name ≡ contains (set_at (sets_of l.nodes) l.set) l.name)

abbrev pub decreases-loop-node : goal.decreases-loop-node
decreases-loop-node l = l.number
