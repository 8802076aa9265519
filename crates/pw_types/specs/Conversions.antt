-- The integer types, and the conversions between them (ISO C90 6.1.2.5, 6.2.1).
use Rattle.std.specs.Prelude.{ℕ, ◌%◌, ◌^◌, Bool, true, false, nat_eq, ◌&&◌, ◌||◌, if◌then◌else◌}
use Rattle.pw_types.specs.declared.kind.IntKind.{IntKind}
use Rattle.pw_types.specs.declared.kind.IntKind.TheVariants.{Char, SChar, UChar, Short, UShort, Int, UInt, Long, ULong}
use Rattle.pw_value.specs.declared.value.Value.{Value}
use Rattle.pw_value.specs.declared.value.Value.TheVariants.{Undefined, Num, Null, At, Piece}
use Rattle.pw_value.specs.Values.{extended}

-- in bytes
abbrev pub size_of_kind : IntKind → ℕ
size_of_kind Char = 1
size_of_kind SChar = 1
size_of_kind UChar = 1
size_of_kind Short = 2
size_of_kind UShort = 2
size_of_kind Int = 4
size_of_kind UInt = 4
size_of_kind Long = 4
size_of_kind ULong = 4

-- a plain char is signed
abbrev pub is_signed_kind : IntKind → Bool
is_signed_kind Char = true
is_signed_kind SChar = true
is_signed_kind UChar = false
is_signed_kind Short = true
is_signed_kind UShort = false
is_signed_kind Int = true
is_signed_kind UInt = false
is_signed_kind Long = true
is_signed_kind ULong = false

-- the integer promotions: int holds every value of each char and short type
abbrev pub promoted : IntKind → IntKind
promoted Char = Int
promoted SChar = Int
promoted UChar = Int
promoted Short = Int
promoted UShort = Int
promoted Int = Int
promoted UInt = UInt
promoted Long = Long
promoted ULong = ULong

abbrev pub is_ulong : IntKind → Bool
is_ulong ULong = true
is_ulong _ = false

abbrev pub is_long : IntKind → Bool
is_long Long = true
is_long _ = false

abbrev pub is_uint : IntKind → Bool
is_uint UInt = true
is_uint _ = false

-- The usual arithmetic conversions: unsigned long if either operand is, or if one is long and one is
-- unsigned int, whose values a long of four bytes cannot hold; else long if either is; else unsigned
-- int if either is; else int.
abbrev pub usual_of : IntKind → IntKind → IntKind
usual_of a b =
    if is_ulong a || is_ulong b || (is_long a && is_uint b) || (is_uint a && is_long b) then ULong else
    if is_long a || is_long b then Long else
    if is_uint a || is_uint b then UInt else
    Int

-- A value as one of the type: a number keeps the low bits, and a piece of a pointer stays in a
-- character type; every other value has none.
abbrev pub converted : Value → IntKind → Value
converted (Num n) to = Num (extended (size_of_kind to) (is_signed_kind to) (n % 256 ^ size_of_kind to))
converted (Piece p i) to = if nat_eq (size_of_kind to) 1 then Piece p i else Undefined
converted Undefined to = Undefined
converted Null to = Undefined
converted (At p) to = Undefined
