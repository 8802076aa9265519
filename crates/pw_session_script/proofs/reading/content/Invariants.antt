use Rattle.std.proofs.Common.{◌≡◌}
use Rattle.pw_session_script.proofs.ReadingLemmas.{ContentAt, PartAt}
use Rattle.pw_session_script.proofs.reading.content.Given as goal

-- what was read so far, with what is left, is what stood there
abbrev pub invariant-loop-place : goal.invariant-loop-place
invariant-loop-place g l = record {
  so_far : ContentAt l.count (g.I.Source.rest l.fn.input) (g.I.Source.rest l.input) l.bytes.items l._place;
  part : PartAt (g.I.Source.rest l.fn.input) (g.I.Source.rest l.input);
  count : g.I.Source.faults l.input ≡ g.I.Source.faults l.fn.input;
}
