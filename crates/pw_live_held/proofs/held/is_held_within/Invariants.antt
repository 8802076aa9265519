use Rattle.std.proofs.Common.{◌≤◌, ◌<◌, ℕ, map}
use Rattle.pw_live.specs.Points.{points}
use Rattle.pw_live_held.specs.Makers.{calls, IsOverCall}
use Rattle.pw_live_held.proofs.held.is_held_within.Given as goal

abbrev pub invariant-loop-p : goal.invariant-loop-p
invariant-loop-p l = record {
  high : l.to ≤ l.fn.span.1;
  none : (q : ℕ) → l.to ≤ q → q < l.fn.span.1 → ¬ IsOverCall l.makers (map calls (points l.f)) l.t q;
}

abbrev pub decreases-loop-p : goal.decreases-loop-p
decreases-loop-p l = l.to
