use Rattle.std.proofs.Common.{length}
use Rattle.pw_build_objects.specs.Showing.{ShowWhereKept}
use Rattle.pw_build_objects.proofs.shown.show_each.Given as goal

-- what was kept shows what its modules do, if what is left of it does
abbrev pub invariant-loop-left : goal.invariant-loop-left
invariant-loop-left l = ShowWhereKept l.program l.left l.modules l.rest → ShowWhereKept l.program l.kept l.flows l.summaries

abbrev pub decreases-loop-left : goal.decreases-loop-left
decreases-loop-left l = length l.left
