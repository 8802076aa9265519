-- How far slots reach.
use Rattle.std.proofs.Common.{◌≡◌, ℕ, ◌+◌, List, [], ◌∷◌, arith}
use Rattle.std.specs.List.{sum_by}
use Rattle.std.proofs.lemmas.List.Sums.{sum_by-cons}
use Rattle.pw_alloc.specs.Frames.{last_reach}
use Rattle.pw_value.specs.Rounding.{slot_room}

-- slots reach as far as their sizes come to
pub reach_of_sizes : (at : ℕ) (slots : List ℕ) → last_reach at slots ≡ at + sum_by slot_room slots
reach_of_sizes at [] = omega arith
reach_of_sizes at (size ∷ slots) =
    let e = sum_by-cons slot_room size slots in
    let h = reach_of_sizes (at + slot_room size) slots in
    omega arith
