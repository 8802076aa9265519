-- Arithmetic on words of 32 bits, as C has it for int and unsigned int. A word is a number from 0 to
-- 2^32 - 1; an int stands in it in two's complement (ISO C90 6.1.2.5).
use Rattle.std.specs.Prelude.{ℕ, ℤ, pos, negsuc, neg_ℤ, ◌+◌, ◌-◌, ◌*◌, ◌/◌, ◌%◌, ◌^◌, ◌+ℤ◌, ◌-ℤ◌, ◌*ℤ◌, ◌==◌, ◌&&◌, Bool, nat_lt, nat_le, int_lt, int_le, int_div, int_rem, Result, Ok, Err, if◌then◌else◌}
use Rattle.std.specs.Int.{w32, cast_signed, cast_unsigned, int_shr}
use Rattle.pw_value.specs.declared.words.WordFault.{WordFault}
use Rattle.pw_value.specs.declared.words.WordFault.TheVariants.{Overflow, ZeroDivisor, ShiftCount}

-- the int that a word stands for, and the word of an int
abbrev pub signed : ℕ → ℤ
signed a = cast_signed w32 a

abbrev pub word : ℤ → ℕ
word z = cast_unsigned w32 z

-- the greatest int (5.2.4.2.1)
abbrev pub int_max : ℕ
int_max = 2 ^ 31 - 1

-- what a read of a byte answers at the end of the input: the word of -1 (7.9.7.6)
abbrev pub end_of_input : ℕ
end_of_input = 2 ^ 32 - 1

-- the bits of a word inverted (6.3.3.3)
abbrev pub complement : ℕ → ℕ
complement a = 2 ^ 32 - 1 - a

-- whether a word stands for a negative number, where it is an int's or an unsigned int's; and how far from 0
-- the number is that it stands for, where it is negative or not
abbrev pub is_negative : Bool → ℕ → Bool
is_negative sign a = sign && nat_lt int_max a

abbrev pub magnitude : Bool → ℕ → ℕ
magnitude negative a = if negative then 2 ^ 32 - a else a

-- whether an int can hold the number: it lies in -2^31 to 2^31 - 1
abbrev pub fits : ℤ → Bool
fits (pos n) = nat_le n int_max
fits (negsuc n) = nat_le n int_max

-- The exact result of an operation on ints, where an int can hold it; else the operation overflows (6.3).
abbrev pub exact : ℤ → Result ℕ WordFault
exact z = if fits z then Ok (word z) else Err Overflow

-- what a division answers, unless it is by zero (6.3.5)
abbrev pub divided : ℕ → Result ℕ WordFault → Result ℕ WordFault
divided b answer = if b == 0 then Err ZeroDivisor else answer

-- what a shift answers, unless its count is negative or no less than the width (6.3.7): a word that
-- stands for a negative int is above 31 itself
abbrev pub shifted : ℕ → ℕ → Result ℕ WordFault
shifted count answer = if nat_lt count 32 then Ok answer else Err ShiftCount

-- ---- unsigned int: a result that it cannot hold is reduced modulo 2^32 (6.1.2.5)

abbrev pub unsigned_sum : ℕ → ℕ → ℕ
unsigned_sum a b = (a + b) % 2 ^ 32

abbrev pub unsigned_difference : ℕ → ℕ → ℕ
unsigned_difference a b = (a + (2 ^ 32 - b)) % 2 ^ 32

abbrev pub unsigned_product : ℕ → ℕ → ℕ
unsigned_product a b = a * b % 2 ^ 32

abbrev pub unsigned_negation : ℕ → ℕ
unsigned_negation a = unsigned_difference 0 a

abbrev pub unsigned_quotient : ℕ → ℕ → Result ℕ WordFault
unsigned_quotient a b = divided b (Ok (a / b))

abbrev pub unsigned_remainder : ℕ → ℕ → Result ℕ WordFault
unsigned_remainder a b = divided b (Ok (a % b))

abbrev pub unsigned_less : ℕ → ℕ → Bool
unsigned_less a b = nat_lt a b

abbrev pub unsigned_at_most : ℕ → ℕ → Bool
unsigned_at_most a b = nat_le a b

-- ---- int

abbrev pub signed_sum : ℕ → ℕ → Result ℕ WordFault
signed_sum a b = exact (signed a +ℤ signed b)

abbrev pub signed_difference : ℕ → ℕ → Result ℕ WordFault
signed_difference a b = exact (signed a -ℤ signed b)

abbrev pub signed_product : ℕ → ℕ → Result ℕ WordFault
signed_product a b = exact (signed a *ℤ signed b)

abbrev pub signed_negation : ℕ → Result ℕ WordFault
signed_negation a = exact (neg_ℤ (signed a))

-- the quotient toward zero
abbrev pub signed_quotient : ℕ → ℕ → Result ℕ WordFault
signed_quotient a b = divided b (exact (int_div (signed a) (signed b)))

-- what the quotient leaves, where an int can hold the quotient
abbrev pub signed_remainder : ℕ → ℕ → Result ℕ WordFault
signed_remainder a b = divided b (if fits (int_div (signed a) (signed b)) then Ok (word (int_rem (signed a) (signed b))) else Err Overflow)

abbrev pub signed_less : ℕ → ℕ → Bool
signed_less a b = int_lt (signed a) (signed b)

abbrev pub signed_at_most : ℕ → ℕ → Bool
signed_at_most a b = int_le (signed a) (signed b)

-- ---- shifts

-- the bits go to the left, and zeros follow
abbrev pub shift_left : ℕ → ℕ → Result ℕ WordFault
shift_left a count = shifted count (a * 2 ^ count % 2 ^ 32)

-- the bits go to the right, and zeros come first
abbrev pub unsigned_shift_right : ℕ → ℕ → Result ℕ WordFault
unsigned_shift_right a count = shifted count (a / 2 ^ count)

-- the same of an int, whose sign spreads
abbrev pub signed_shift_right : ℕ → ℕ → Result ℕ WordFault
signed_shift_right a count = shifted count (word (int_shr (signed a) count))
