use Rattle.std.proofs.Common.{◌≡◌, false, take}
use Rattle.pw_live.specs.Liveness.{has}
use Rattle.pw_allocate.proofs.saving.is_among.Given as goal

abbrev pub invariant-loop-register : goal.invariant-loop-register
invariant-loop-register l = has l.r (take l.register-index l.registers) ≡ false
