use Rattle.std.proofs.Common.{ℕ, List, ◌++◌, take}
use Rattle.pw_alloc_registers.specs.Masks.{IsMaskOf}
use Rattle.pw_alloc_registers.proofs.finding.with_registers.Given as goal

abbrev pub invariant-loop-register : goal.invariant-loop-register
invariant-loop-register l = (rs : List ℕ) → IsMaskOf l.mask rs → IsMaskOf l.all (rs ++ take l.register-index l.registers)
