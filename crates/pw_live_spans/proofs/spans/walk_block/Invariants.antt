use Rattle.std.proofs.Common.{◌≡◌, ◌-◌, length, vec_len}
use Rattle.std.specs.Prelude.{Some, slice_get}
use Rattle.pw_flow.specs.Outline.{Stretch}
use Rattle.pw_live_spans.specs.LivePoints.{StandsInside}
use Rattle.pw_live_spans.proofs.spans.walk_block.Given as goal

abbrev pub invariant-loop-done : goal.invariant-loop-done
invariant-loop-done l = record {
  count : vec_len l.walk.ends ≡ vec_len l.fn.walk.ends;
  stands : (s : Stretch) → slice_get l.f.blocks l.b ≡ Some s → StandsInside l.f l.b s (length s.acts - l.done) l.walk;
}
