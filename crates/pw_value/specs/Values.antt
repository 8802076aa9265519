-- Values, and how they stand in the bytes of an object: numbers are two's complement and big-endian
-- (ISO C90 6.1.2.5), a pointer is its four pieces in order, and a null pointer is four zero bytes.
use Rattle.std.specs.Prelude.{ℕ, zero, suc, ◌+◌, ◌-◌, ◌*◌, ◌/◌, ◌%◌, ◌^◌, ◌≡◌, ◌⊎◌, ◌&&◌, Bool, false, nat_le, nat_eq, if◌then◌else◌, Option, None, Some, option_map, List, [], ◌∷◌, ◌++◌, replicate, length}
use Rattle.pw_value.specs.declared.value.Value.{Value}
use Rattle.pw_value.specs.declared.value.Value.TheVariants.{Undefined, Num, Null, At, Piece}
use Rattle.pw_value.specs.declared.value.Byte.{Byte}
use Rattle.pw_value.specs.declared.value.Byte.TheVariants as B
use Rattle.pw_value.specs.declared.value.Pointer.{Pointer}
use Rattle.pw_value.specs.declared.value.Pointer.TheVariants as P

-- the widths of a scalar, in bytes
abbrev pub IsWidth : ℕ → Type 0
IsWidth width = (width ≡ 1) ⊎ (width ≡ 2) ⊎ (width ≡ 4)

-- an object of so many bytes can hold the value: a pointer takes four bytes, a piece takes one
abbrev pub FitsWidth : Value → ℕ → Type 0
FitsWidth Undefined width = IsWidth width
FitsWidth (Num n) width = IsWidth width
FitsWidth Null width = width ≡ 4
FitsWidth (At p) width = width ≡ 4
FitsWidth (Piece p i) width = width ≡ 1

-- the low bytes of a number, the one that is worth most first
abbrev pub number_bytes : ℕ → ℕ → List Byte
number_bytes zero n = []
number_bytes (suc more) n = B.Num (n / 256 ^ more % 256) ∷ number_bytes more n

-- the four pieces of a pointer
abbrev pub pieces_of : Pointer → List Byte
pieces_of p = B.Piece p 0 ∷ B.Piece p 1 ∷ B.Piece p 2 ∷ B.Piece p 3 ∷ []

-- a value in an object of so many bytes
abbrev pub encoding : Value → ℕ → List Byte
encoding Undefined width = replicate width B.Undefined
encoding (Num n) width = number_bytes width n
encoding Null width = number_bytes 4 0
encoding (At p) width = pieces_of p
encoding (Piece p i) width = B.Piece p i ∷ []

-- four bytes that begin with these and are undefined after them
abbrev pub padded : List Byte → List Byte
padded bytes = bytes ++ replicate (4 - length bytes) B.Undefined

-- the number that bytes write, the first being worth most; None where one of them holds no number
abbrev pub number_in : List Byte → Option ℕ
number_in [] = Some 0
number_in (B.Num b ∷ rest) = option_map (λ low. b * 256 ^ length rest + low) (number_in rest)
number_in (B.Undefined ∷ rest) = None
number_in (B.Piece p i ∷ rest) = None

-- a number of so many bytes as a word: a signed one that is at least half of its range stands for
-- the negative number that is less by the whole range (two's complement)
abbrev pub extended : ℕ → Bool → ℕ → ℕ
extended width signed n = if signed && nat_le (256 ^ width) (2 * n) then 2 ^ 32 - (256 ^ width - n) else n

-- the value of a whole number or of a character that stands in the bytes
abbrev pub scalar_in : List Byte → Bool → Value
scalar_in (B.Piece p i ∷ []) signed = Piece p i
scalar_in bytes signed = number_or_undefined (number_in bytes)
  where
    number_or_undefined : Option ℕ → Value
    number_or_undefined None = Undefined
    number_or_undefined (Some n) = Num (extended (length bytes) signed n)

-- Two pointers are the same: one function, or one object and one offset in it.
abbrev pub same_pointer : Pointer → Pointer → Bool
same_pointer (P.Object a i) (P.Object b j) = nat_eq a b && nat_eq i j
same_pointer (P.Function f) (P.Function g) = nat_eq f g
same_pointer (P.Object a i) (P.Function g) = false
same_pointer (P.Function f) (P.Object b j) = false

-- the byte is this piece of the pointer
abbrev pub is_piece : Pointer → ℕ → Byte → Bool
is_piece p i B.Undefined = false
is_piece p i (B.Num n) = false
is_piece p i (B.Piece q j) = same_pointer p q && nat_eq i j

-- the byte is the number 0
abbrev pub is_zero : Byte → Bool
is_zero B.Undefined = false
is_zero (B.Num n) = nat_eq n 0
is_zero (B.Piece q j) = false

-- the pointer that stands in four bytes: null where all are zero, and else the one whose pieces
-- they are, in order
abbrev pub pointer_in : List Byte → Value
pointer_in (B.Num n ∷ b ∷ c ∷ d ∷ []) =
    if nat_eq n 0 && is_zero b && is_zero c && is_zero d then Null else Undefined
pointer_in (B.Piece p i ∷ b ∷ c ∷ d ∷ []) =
    if nat_eq i 0 && is_piece p 1 b && is_piece p 2 c && is_piece p 3 d then At p else Undefined
pointer_in _ = Undefined
