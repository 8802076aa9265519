use Rattle.std.proofs.Common.{take}
use Rattle.pw_live_spans.specs.Spans.{Covers}
use Rattle.pw_alloc_taken.proofs.given.is_live_at_start.Given as goal

abbrev pub invariant-loop-place : goal.invariant-loop-place
invariant-loop-place l = ¬ Covers (take l.place l.spans) 0
