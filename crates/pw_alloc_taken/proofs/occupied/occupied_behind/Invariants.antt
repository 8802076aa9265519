use Rattle.std.proofs.Common.{ℕ, take}
use Rattle.std.specs.Prelude.{◌↔◌}
use Rattle.pw_alloc_masks.specs.Masks.{HasRegister}
use Rattle.pw_alloc_taken.specs.Masks.{IsOccupiedBehind}
use Rattle.pw_alloc_taken.proofs.occupied.occupied_behind.Given as goal

abbrev pub invariant-loop-place : goal.invariant-loop-place
invariant-loop-place l = (k : ℕ) → HasRegister l.behind k ↔ IsOccupiedBehind (take l.place l.definitions) l.occupied k
