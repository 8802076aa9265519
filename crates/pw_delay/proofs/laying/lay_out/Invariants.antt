use Rattle.std.proofs.Common.{◌≡◌, ◌+◌, length}
use Rattle.pw_delay.specs.Marks.{begins}
use Rattle.pw_delay.specs.Lawful.{AreItems}
use Rattle.pw_delay.specs.Placement.{sizes, words_from, extended, code_of}
use Rattle.pw_delay.proofs.laying.lay_out.Given as goal

abbrev pub invariant-loop-rest : goal.invariant-loop-rest
invariant-loop-rest l = record {
  laid : extended l.code (words_from l.long (begins l.blocks) (length l.code.words) l.rest) ≡ code_of (words_from l.long (begins l.blocks) 0 l.items);
  count : length l.code.words + sizes l.long l.rest ≡ sizes l.long l.items;
  lawful : AreItems l.rest;
}

abbrev pub decreases-loop-rest : goal.decreases-loop-rest
decreases-loop-rest l = length l.rest
