-- Values as numbers.
use Rattle.std.specs.Prelude.{ℕ, Option, Some, None}
use Rattle.pw_value.specs.declared.value.Value.{Value}
use Rattle.pw_value.specs.declared.value.Value.TheVariants as V

-- the number that a value is
abbrev pub number_in : Value → Option ℕ
number_in (V.Num n) = Some n
number_in V.Undefined = None
number_in V.Null = None
number_in (V.At p) = None
number_in (V.Piece p i) = None
