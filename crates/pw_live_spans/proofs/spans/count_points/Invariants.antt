use Rattle.std.proofs.Common.{◌≡◌}
use Rattle.pw_live_spans.specs.LivePoints.{points_before}
use Rattle.pw_live_spans.proofs.spans.count_points.Given as goal

abbrev pub invariant-loop-block : goal.invariant-loop-block
invariant-loop-block l = l.count ≡ points_before l.blocks l.block-index
