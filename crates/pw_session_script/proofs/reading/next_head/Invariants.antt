use Rattle.std.proofs.Common.{◌≡◌, length}
use Rattle.pw_session_script.proofs.ReadingLemmas.{HeadAt, PartAt}
use Rattle.pw_session_script.proofs.reading.next_head.Given as goal

-- what was read so far, with what is left, is what stood there
abbrev pub invariant-loop-place : goal.invariant-loop-place
invariant-loop-place g l = record {
  so_far : HeadAt (g.I.Source.rest l.fn.input) (g.I.Source.rest l.input) l.head.items l._place;
  size : length l.head.items ≡ l._place;
  part : PartAt (g.I.Source.rest l.fn.input) (g.I.Source.rest l.input);
  count : g.I.Source.faults l.input ≡ g.I.Source.faults l.fn.input;
}
