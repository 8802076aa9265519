use Rattle.std.proofs.Common.{ℕ, take}
use Rattle.std.specs.Prelude.{◌↔◌}
use Rattle.pw_alloc_masks.specs.Masks.{HasRegister}
use Rattle.pw_alloc_taken.specs.Masks.{IsMadeBeside}
use Rattle.pw_alloc_taken.proofs.occupied.made_beside.Given as goal

abbrev pub invariant-loop-place : goal.invariant-loop-place
invariant-loop-place l = (k : ℕ) → HasRegister l.beside k ↔ IsMadeBeside l.made (take l.place l.spans) k
