-- Integer constants (ISO C90 6.1.3.2): their values and types. The texts are those of constants that stand in a text.
use Rattle.std.specs.Prelude.{ℕ, ◌+◌, ◌-◌, ◌*◌, ◌==◌, ◌^◌, Bool, true, false, not, ◌||◌, nat_le, if◌then◌else◌, Option, List, [], ◌∷◌, fold, find, option_map}
use Rattle.std.specs.List.{list_any}
use Rattle.pw_check_literals.specs.declared.integers.IntegerConstant.{IntegerConstant}
use Rattle.pw_types.specs.declared.kind.IntKind.{IntKind}
use Rattle.pw_types.specs.declared.kind.IntKind.TheVariants as K
use Rattle.pw_value.specs.Words.{int_max}

-- what a digit is worth, of a hexadecimal one the letter too
abbrev pub digit_value : ℕ → ℕ
digit_value c =
    if nat_le 97 c then c - 87 else
    if nat_le 65 c then c - 55 else
    c - 48

abbrev pub number_in : ℕ → List ℕ → ℕ
number_in base digits = fold (λ n c. n * base + digit_value c) 0 digits

-- `u` or `U`, and `l` or `L`
abbrev pub is_unsigned_mark : ℕ → Bool
is_unsigned_mark c = c == 117 || c == 85

abbrev pub is_long_mark : ℕ → Bool
is_long_mark c = c == 108 || c == 76

-- the constant without its suffix
abbrev pub without_suffix : List ℕ → List ℕ
without_suffix [] = []
without_suffix (c ∷ rest) = if is_unsigned_mark c || is_long_mark c then [] else c ∷ without_suffix rest

-- whether it is decimal, and its value: `0x` begins a hexadecimal one, and `0` an octal one
abbrev pub is_decimal : List ℕ → Bool
is_decimal [] = true
is_decimal (c ∷ rest) = not (c == 48)

abbrev pub value_behind_zero : List ℕ → ℕ
value_behind_zero [] = 0
value_behind_zero (c ∷ rest) = if c == 120 || c == 88 then number_in 16 rest else number_in 8 (c ∷ rest)

abbrev pub value_of_digits : List ℕ → ℕ
value_of_digits [] = 0
value_of_digits (c ∷ rest) = if c == 48 then value_behind_zero rest else number_in 10 (c ∷ rest)

abbrev pub integer_value : List ℕ → ℕ
integer_value text = value_of_digits (without_suffix text)

-- the types that a constant may have: by whether it is decimal, has a `u`, and has an `l`
abbrev pub types_of_constant : Bool → Bool → Bool → List IntKind
types_of_constant decimal true true = K.ULong ∷ []
types_of_constant decimal true false = K.UInt ∷ K.ULong ∷ []
types_of_constant decimal false true = K.Long ∷ K.ULong ∷ []
types_of_constant true false false = K.Int ∷ K.Long ∷ K.ULong ∷ []
types_of_constant false false false = K.Int ∷ K.UInt ∷ K.Long ∷ K.ULong ∷ []

-- the greatest values of the types that constants have
abbrev pub greatest_of_kind : IntKind → ℕ
greatest_of_kind K.Int = int_max
greatest_of_kind K.Long = int_max
greatest_of_kind K.UInt = 2 ^ 32 - 1
greatest_of_kind K.ULong = 2 ^ 32 - 1
greatest_of_kind _ = 0

-- the type of a constant: the first of these that holds its value; None where none does
abbrev pub integer_type : List ℕ → Option IntKind
integer_type text =
    find (λ kind. nat_le (integer_value text) (greatest_of_kind kind))
    (types_of_constant (is_decimal text) (list_any is_unsigned_mark text) (list_any is_long_mark text))

abbrev pub constant_of_type : List ℕ → IntKind → IntegerConstant
constant_of_type text kind = record { value = integer_value text; kind = kind }

-- a constant with its value and its type; None where it is too wide
abbrev pub integer_constant : List ℕ → Option IntegerConstant
integer_constant text = option_map (constant_of_type text) (integer_type text)
