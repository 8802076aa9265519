-- Moves along the operands.
use Rattle.std.proofs.Common.{◌≡◌, List, [], ◌∷◌, ◌++◌, Option, None, Some, option_and_then, refl, ap}
use Rattle.pw_check_rules.specs.Constants.{Place}
use Rattle.pw_check_constants.specs.Moves.{replayed, taken}
use Rattle.pw_check_constants.specs.declared.moves.Move.{Move}

-- one move more, next to the start
pub replayed_push : (ms : List Move) (m : Move) (p : Option Place) → replayed (ms ++ m ∷ []) p ≡ replayed ms (option_and_then (taken m) p)
replayed_push [] m p = refl
replayed_push (n ∷ ms) m p = ap (option_and_then (taken n)) (replayed_push ms m p)

-- two moves that lead to the same from each place
pub same_moves : (f g : Place → Option Place) → ((p : Place) → f p ≡ g p) → (p : Option Place) → option_and_then f p ≡ option_and_then g p
same_moves f g same None = refl
same_moves f g same (Some p) = same p
