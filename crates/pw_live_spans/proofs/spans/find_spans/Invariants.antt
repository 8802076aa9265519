use Rattle.std.proofs.Common.{◌≡◌, ◌-◌, length, vec_len}
use Rattle.pw_live_spans.specs.LivePoints.{StandsBefore}
use Rattle.pw_live_spans.proofs.spans.find_spans.Given as goal

abbrev pub invariant-loop-done : goal.invariant-loop-done
invariant-loop-done l = record {
  count : vec_len l.walk.ends ≡ l.f.temps;
  stands : StandsBefore l.f (length l.f.blocks - l.done) l.walk;
}
