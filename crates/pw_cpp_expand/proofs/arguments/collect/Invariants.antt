use Rattle.std.proofs.Common.{◌+◌, ◌-◌, ◌<◌, ◌≤◌, length}
use Rattle.std.specs.List.{All}
use Rattle.pw_cpp_expand.specs.Numbered.{AreKnown}
use Rattle.pw_cpp_expand.proofs.Cutting.{LeadsTo}
use Rattle.pw_cpp_expand.proofs.arguments.collect.Given as goal
use Rattle.pw_cpp_sets.specs.Sets.{Known}

-- what the arguments so far come to with what is at hand, the call comes to from its `(` on
abbrev pub invariant-loop-last : goal.invariant-loop-last
invariant-loop-last l =
    (l.progress.next ≤ length l.text) × (l.depth ≤ length l.last.items)
    × LeadsTo l.source l.text l.mode l.initial.pending l.initial.progress l.depth l.whole l.last.items l.pending l.progress
    × ((known : Known) → 0 < length known → AreKnown known l.initial.pending → AreKnown known l.pending × AreKnown known l.last.items × All (AreKnown known) l.whole)

abbrev pub decreases-loop-last : goal.decreases-loop-last
decreases-loop-last l = length l.pending + (length l.text - l.progress.next)
