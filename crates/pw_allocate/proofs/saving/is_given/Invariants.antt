use Rattle.std.proofs.Common.{◌≡◌, false, take}
use Rattle.std.specs.List.{list_any}
use Rattle.pw_live.specs.Liveness.{is_that}
use Rattle.pw_allocate.proofs.saving.is_given.Given as goal

abbrev pub invariant-loop-given : goal.invariant-loop-given
invariant-loop-given l = list_any (λ o. is_that o l.r) (take l.given-index l.registers) ≡ false
