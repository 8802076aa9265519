-- What operations make of values. A value is a number, a pointer, a piece of one, or undefined; a null pointer is
-- the number 0. None is where no lawful program leads.
use Rattle.std.specs.Prelude.{ℕ, zero, ◌%◌, ◌==◌, ◌&&◌, nat_le, nat_lt, not, Bool, true, false, if◌then◌else◌, bit_and, bit_or, bit_xor, Option, Some, None, option_map, Result, Ok, Err, List, length}
use Rattle.pw_value.specs.declared.value.Value.{Value}
use Rattle.pw_value.specs.declared.value.Value.TheVariants.{Num, At, Piece}
use Rattle.pw_value.specs.declared.value.Pointer.{Pointer}
use Rattle.pw_value.specs.declared.value.Pointer.TheVariants as P
use Rattle.pw_value.specs.Objects.{Object, object_at}
use Rattle.pw_value.specs.Words.{complement, unsigned_sum, unsigned_difference, unsigned_product, unsigned_negation, unsigned_quotient, unsigned_remainder, unsigned_less, unsigned_at_most, signed_quotient, signed_remainder, signed_less, signed_at_most, shift_left, unsigned_shift_right, signed_shift_right}
use Rattle.pw_value.specs.declared.words.WordFault.{WordFault}
use Rattle.pw_value.specs.Values.{extended}
use Rattle.pw_flow.specs.declared.flow.UnKind.{UnKind}
use Rattle.pw_flow.specs.declared.flow.UnKind.TheVariants.{Neg, Not}
use Rattle.pw_flow.specs.declared.flow.BinKind.{BinKind}
use Rattle.pw_flow.specs.declared.flow.BinKind.TheVariants.{Add, Sub, And, Or, Xor, Mul, DivS, DivU, RemS, RemU, Shl, ShrS, ShrU, Eq, Ne, LtS, LeS, LtU, LeU}
use Rattle.pw_flow.specs.declared.flow.ExtKind.{ExtKind}
use Rattle.pw_flow.specs.declared.flow.ExtKind.TheVariants.{S8, U8, S16, U16}

abbrev pub truth : Bool → Value
truth true = Num 1
truth false = Num 0

-- ---- one number

abbrev pub unary : UnKind → Value → Option Value
unary Neg (Num n) = Some (Num (unsigned_negation n))
unary Not (Num n) = Some (Num (complement n))
unary k v = None

-- the low bits of a number; a byte of a pointer stays one as a character
abbrev pub extension : ExtKind → Value → Option Value
extension S8 (Num n) = Some (Num (extended 1 true (n % 256)))
extension U8 (Num n) = Some (Num (n % 256))
extension S16 (Num n) = Some (Num (extended 2 true (n % 65536)))
extension U16 (Num n) = Some (Num (n % 65536))
extension S8 (Piece p i) = Some (Piece p i)
extension U8 (Piece p i) = Some (Piece p i)
extension k v = None

-- ---- two numbers

-- a number, unless the operation has none
abbrev pub number_of : Result ℕ WordFault → Option Value
number_of (Ok n) = Some (Num n)
number_of (Err fault) = None

abbrev pub on_numbers : BinKind → ℕ → ℕ → Option Value
on_numbers Add a b = Some (Num (unsigned_sum a b))
on_numbers Sub a b = Some (Num (unsigned_difference a b))
on_numbers And a b = Some (Num (bit_and a b))
on_numbers Or a b = Some (Num (bit_or a b))
on_numbers Xor a b = Some (Num (bit_xor a b))
on_numbers Mul a b = Some (Num (unsigned_product a b))
on_numbers DivS a b = number_of (signed_quotient a b)
on_numbers DivU a b = number_of (unsigned_quotient a b)
on_numbers RemS a b = number_of (signed_remainder a b)
on_numbers RemU a b = number_of (unsigned_remainder a b)
on_numbers Shl a b = number_of (shift_left a b)
on_numbers ShrS a b = number_of (signed_shift_right a b)
on_numbers ShrU a b = number_of (unsigned_shift_right a b)
on_numbers Eq a b = Some (truth (a == b))
on_numbers Ne a b = Some (truth (not (a == b)))
on_numbers LtS a b = Some (truth (signed_less a b))
on_numbers LeS a b = Some (truth (signed_at_most a b))
on_numbers LtU a b = Some (truth (unsigned_less a b))
on_numbers LeU a b = Some (truth (unsigned_at_most a b))

-- ---- pointers

-- a pointer into a live object or to its one-past position
abbrev pub is_near : List Object → ℕ → ℕ → Bool
is_near objects o i = (object_at objects o).live && nat_le i (length (object_at objects o).bytes)

-- Two pointers into one object compare by their offsets; those into different ones are different where both
-- objects live, since no two live objects touch.
abbrev pub same_place : List Object → Pointer → Pointer → Option Bool
same_place objects (P.Object o i) (P.Object p j) =
    if is_near objects o i && is_near objects p j
    then Some ((o == p) && (i == j))
    else None
same_place objects (P.Function f) (P.Function g) = Some (f == g)
same_place objects (P.Object o i) (P.Function g) = if is_near objects o i then Some false else None
same_place objects (P.Function f) (P.Object p j) = if is_near objects p j then Some false else None

-- a pointer that leads anywhere is not null
abbrev pub is_somewhere : List Object → Pointer → Bool
is_somewhere objects (P.Object o i) = is_near objects o i
is_somewhere objects (P.Function f) = true

abbrev pub on_pointers : List Object → BinKind → Pointer → Pointer → Option Value
on_pointers objects Eq p q = option_map truth (same_place objects p q)
on_pointers objects Ne p q = option_map (λ same. truth (not same)) (same_place objects p q)
on_pointers objects Sub (P.Object o i) (P.Object p j) = if o == p then Some (Num (unsigned_difference i j)) else None
on_pointers objects LtU (P.Object o i) (P.Object p j) =
    if (o == p) && (is_near objects o i && is_near objects p j) then Some (truth (nat_lt i j)) else None
on_pointers objects LeU (P.Object o i) (P.Object p j) =
    if (o == p) && (is_near objects o i && is_near objects p j) then Some (truth (nat_le i j)) else None
on_pointers objects k p q = None

abbrev pub pointer_and_number : List Object → BinKind → Pointer → ℕ → Option Value
pointer_and_number objects Add (P.Object o i) n = Some (At (P.Object o (unsigned_sum i n)))
pointer_and_number objects Sub (P.Object o i) n = Some (At (P.Object o (unsigned_difference i n)))
pointer_and_number objects Eq p zero = if is_somewhere objects p then Some (truth false) else None
pointer_and_number objects Ne p zero = if is_somewhere objects p then Some (truth true) else None
pointer_and_number objects k p n = None

abbrev pub number_and_pointer : List Object → BinKind → ℕ → Pointer → Option Value
number_and_pointer objects Eq zero p = if is_somewhere objects p then Some (truth false) else None
number_and_pointer objects Ne zero p = if is_somewhere objects p then Some (truth true) else None
number_and_pointer objects k n p = None

abbrev pub binary : List Object → BinKind → Value → Value → Option Value
binary objects k (Num a) (Num b) = on_numbers k a b
binary objects k (At p) (At q) = on_pointers objects k p q
binary objects k (At p) (Num n) = pointer_and_number objects k p n
binary objects k (Num n) (At p) = number_and_pointer objects k n p
binary objects k v w = None
