use Rattle.std.proofs.Common.{◌≡◌, ◌+◌, ◌++◌, length}
use Rattle.pw_select_lines.specs.Operations.{register_arguments}
use Rattle.pw_select_lines.proofs.operations.put_registers.Given as goal

abbrev pub invariant-loop-rest : goal.invariant-loop-rest
invariant-loop-rest l = record {
  so_far : l.out ++ register_arguments l.r l.rest ≡ l.fn.out ++ register_arguments 26 l.args;
  register : l.r + length l.args ≡ 26 + length l.rest;
}

abbrev pub decreases-loop-rest : goal.decreases-loop-rest
decreases-loop-rest l = length l.rest
