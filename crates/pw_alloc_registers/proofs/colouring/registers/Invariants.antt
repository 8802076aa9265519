use Rattle.std.proofs.Common.{ℕ, [], List, take}
use Rattle.pw_alloc_temps.specs.Registers.{given_to}
use Rattle.pw_alloc_registers.specs.Masks.{IsMaskOf}
use Rattle.pw_alloc_taken.specs.Knowing.{AreSized, AreGiven}
use Rattle.pw_alloc_registers.proofs.colouring.registers.Given as goal

abbrev pub invariant-loop-place : goal.invariant-loop-place
invariant-loop-place l = record {
  sized : AreSized l.f l.given;
  given : (ws cs : List ℕ) → IsMaskOf l.masks.webs ws → IsMaskOf l.masks.cluster cs → AreGiven l.f (given_to l.f ws cs (take l.place l.order.items) []) l.given;
}
