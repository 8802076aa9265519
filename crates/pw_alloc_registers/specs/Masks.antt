-- Sets of registers beside lists of them.
use Rattle.std.specs.Prelude.{ℕ, ◌≡◌, List}
use Rattle.pw_live.specs.Liveness.{has}
use Rattle.pw_alloc_masks.specs.Masks.{in_mask}

-- the set has the registers of the list
abbrev pub IsMaskOf : ℕ → List ℕ → Type 0
IsMaskOf mask rs = (r : ℕ) → in_mask mask r ≡ has r rs
