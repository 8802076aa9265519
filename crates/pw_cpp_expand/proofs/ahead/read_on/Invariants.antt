use Rattle.std.proofs.Common.{◌≡◌, ◌≤◌, ◌-◌, length}
use Rattle.pw_cpp_expand.proofs.ReadingOn.{Leads}
use Rattle.pw_cpp_expand.proofs.ahead.read_on.Given as goal

-- what comes of the line at the place comes of the line that is next, and the text has come no further
abbrev pub invariant-loop-at : goal.invariant-loop-at
invariant-loop-at l = (l.at ≤ length l.text) × Leads l.text l.at l.initial.progress × (l.progress ≡ l.initial.progress)

abbrev pub decreases-loop-at : goal.decreases-loop-at
decreases-loop-at l = length l.text - l.at
