use Rattle.std.proofs.Common.{◌≡◌, max, drop}
use Rattle.pw_live_needs.specs.Counts.{greatest}
use Rattle.pw_live_needs.proofs.counting.greatest.Given as goal

abbrev pub invariant-loop-place : goal.invariant-loop-place
invariant-loop-place l = max l.most (greatest (drop l.place l.counts)) ≡ greatest l.counts
