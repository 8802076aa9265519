use Rattle.std.proofs.Common.{◌≡◌, ◌*◌, ◌++◌, length}
use Rattle.std.specs.Prelude.{pos, negsuc, ◌+ℤ◌}
use Rattle.pw_select_lines.specs.Operations.{stacked_arguments}
use Rattle.pw_select_lines.proofs.operations.put_stacked.Given as goal

abbrev pub invariant-loop-rest : goal.invariant-loop-rest
invariant-loop-rest l = record {
  so_far : l.out ++ stacked_arguments l.offset l.rest ≡ l.fn.out ++ stacked_arguments (negsuc 51) l.args;
  offset : l.offset +ℤ pos (4 * length l.args) ≡ negsuc 51 +ℤ pos (4 * length l.rest);
}

abbrev pub decreases-loop-rest : goal.decreases-loop-rest
decreases-loop-rest l = length l.rest
