use Rattle.std.proofs.Common.{◌<◌, ◌≤◌, ◌-◌, length}
use Rattle.pw_cpp_expand.specs.Numbered.{AreKnown}
use Rattle.pw_cpp_expand.proofs.ReadingOn.{LooksAs}
use Rattle.pw_cpp_expand.proofs.ahead.look_on.Given as goal
use Rattle.pw_cpp_sets.specs.Sets.{Known}

-- what stands ahead stood ahead at first
abbrev pub invariant-loop-alloc : goal.invariant-loop-alloc
invariant-loop-alloc l =
    (l.progress.next ≤ length l.text) × LooksAs l.text l.initial.pending l.initial.progress l.pending l.progress
    × ((known : Known) → 0 < length known → AreKnown known l.initial.pending → AreKnown known l.pending)

abbrev pub decreases-loop-alloc : goal.decreases-loop-alloc
decreases-loop-alloc l = length l.text - l.progress.next
