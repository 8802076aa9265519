use Rattle.std.proofs.Common.{◌≡◌, length, map, take}
use Rattle.std.specs.List.{range_with_len}
use Rattle.pw_machine.specs.Core.{register}
use Rattle.pw_debug.proofs.global.registers.Given as goal

abbrev pub invariant-loop-r : goal.invariant-loop-r
invariant-loop-r l =
    (length l.registers ≡ 32) × (take l.r l.registers ≡ map (register l.machine.core) (range_with_len 0 l.r))
