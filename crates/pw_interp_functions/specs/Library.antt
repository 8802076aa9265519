-- The arguments of the functions of the library (ISO C90 7.9.7.6, 7.9.7.9, 7.10.4.3).
use Rattle.std.specs.Prelude.{ℕ, Bool, true, false, Option, Some, None, List, [], ◌∷◌}
use Rattle.pw_value.specs.declared.value.Value.{Value}
use Rattle.pw_value.specs.declared.value.Value.TheVariants as V

-- the only argument of a call, where it is a number
abbrev pub only_number : List Value → Option ℕ
only_number (V.Num n ∷ []) = Some n
only_number _ = None

abbrev pub are_none : List Value → Bool
are_none [] = true
are_none (v ∷ rest) = false
