use Rattle.std.proofs.Common.{◌≡◌, ◌<◌, ◌++◌, length, map}
use Rattle.std.specs.Vec.{vec_len}
use Rattle.pw_cpp_sets.specs.Sets.{Keeps, set_at}
use Rattle.pw_cpp_sets.proofs.Nodes.{said}
use Rattle.pw_cpp_sets.proofs.sets.Sets.with_names.Given as goal

-- the names that are left, in front of the set that was made, are the set that is wanted
abbrev pub invariant-loop-name : goal.invariant-loop-name
invariant-loop-name l =
    Keeps l.initial.self l.self × (l.number < length l.self)
    × (map said l.names.items ++ set_at l.self l.number ≡ map said l.initial.names.items ++ set_at l.initial.self l.set)

abbrev pub decreases-loop-name : goal.decreases-loop-name
decreases-loop-name l = vec_len l.names
