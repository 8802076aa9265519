use Rattle.std.proofs.Common.{ℕ, map, take}
use Rattle.pw_live.specs.Points.{points}
use Rattle.pw_live_spans.specs.Spans.{Covers}
use Rattle.pw_live_held.specs.Makers.{calls, IsOverCall}
use Rattle.pw_live_held.proofs.held.is_held_over.Given as goal

abbrev pub invariant-loop-place : goal.invariant-loop-place
invariant-loop-place l = (q : ℕ) → Covers (take l.place l.spans) q → ¬ IsOverCall l.makers (map calls (points l.f)) l.t q
