-- What slots come to only grows.
use Rattle.std.proofs.Common.{ℕ, ◌+◌, ◌≤◌, List, [], ◌∷◌, arith}
use Rattle.pw_value.specs.Rounding.{slot_room}
use Rattle.pw_flow.specs.ValidFlow.{rooms}

pub grows : (room : ℕ) (slots : List ℕ) → room ≤ rooms room slots
grows room [] = omega arith
grows room (size ∷ slots) = omega (arith, grows (room + slot_room size) slots)
