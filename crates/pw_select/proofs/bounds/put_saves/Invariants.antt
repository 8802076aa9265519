use Rattle.std.proofs.Common.{◌≡◌, ◌+◌, ◌++◌, length}
use Rattle.pw_select_lines.specs.Registers.{store_to}
use Rattle.pw_select.specs.Selection.{saved_lines}
use Rattle.pw_select.proofs.bounds.put_saves.Given as goal

abbrev pub invariant-loop-rest : goal.invariant-loop-rest
invariant-loop-rest l = record {
  so_far : l.out ++ saved_lines store_to l.head l.k l.rest ≡ l.fn.out ++ saved_lines store_to l.head 0 l.saved;
  number : l.k + length l.rest ≡ length l.saved;
}

abbrev pub decreases-loop-rest : goal.decreases-loop-rest
decreases-loop-rest l = length l.rest
