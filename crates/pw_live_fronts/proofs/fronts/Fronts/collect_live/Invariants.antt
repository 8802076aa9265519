use Rattle.std.proofs.Common.{◌-◌, ℕ}
use Rattle.std.specs.Prelude.{◌↔◌, Contains}
use Rattle.pw_live_fronts.proofs.Collecting.{IsFound}
use Rattle.pw_live_fronts.proofs.fronts.Fronts.collect_live.Given as goal

abbrev pub invariant-loop-i : goal.invariant-loop-i
invariant-loop-i l = (t : ℕ) → Contains l.live.items t ↔ IsFound l.self.exposed l.row l.at t

abbrev pub decreases-loop-i : goal.decreases-loop-i
decreases-loop-i l = l.row.len - l.at
