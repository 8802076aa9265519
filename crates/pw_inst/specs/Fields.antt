-- Fields of an instruction word. Bits are numbered from 0, the leftmost, to 31, as in the manual of PA-RISC 1.1.
use Rattle.std.specs.Prelude.{ℕ, ℤ, pos, negsuc, Bool, ◌+◌, ◌-◌, ◌*◌, ◌/◌, ◌%◌, ◌^◌, ◌≤ℤ◌, nat_lt, if◌then◌else◌}

-- the `width` bits of a number that stand above its `low` rightmost ones
abbrev pub bits : ℕ → ℕ → ℕ → ℕ
bits low width number = number / 2 ^ low % 2 ^ width

-- the value that stands in the `width` bits of a word from bit `first` on
abbrev pub field : ℕ → ℕ → ℕ → ℕ
field first width word = bits (32 - (first + width)) width word

-- the word in which a value stands in the `width` bits from bit `first` on, and all else is 0
abbrev pub at : ℕ → ℕ → ℕ → ℕ
at first width value = value * 2 ^ (32 - (first + width))

-- a field of one bit
abbrev pub bit : Bool → ℕ
bit set = if set then 1 else 0

-- the two's complement of a number, in `width` bits
abbrev pub twos_complement : ℕ → ℤ → ℕ
twos_complement width (pos n) = n
twos_complement width (negsuc n) = 2 ^ width - 1 - n

-- the number whose two's complement the `width` bits are
abbrev pub signed : ℕ → ℕ → ℤ
signed width value = if nat_lt value (2 ^ (width - 1)) then pos value else negsuc (2 ^ width - 1 - value)

-- a number in a field with low sign: its sign, the leftmost bit of the two's complement, is the rightmost
-- bit of the field, and the other bits stand before it
abbrev pub low_sign : ℕ → ℤ → ℕ
low_sign width number =
    let value = twos_complement width number in
    bits 0 (width - 1) value * 2 + bits (width - 1) 1 value

-- the number that a field with low sign holds
abbrev pub low_signed : ℕ → ℕ → ℤ
low_signed width value = signed width (bits 0 1 value * 2 ^ (width - 1) + bits 1 (width - 1) value)

-- a number that has a two's complement in `width` bits
abbrev pub IsSigned : ℕ → ℤ → Type 0
IsSigned width number = (negsuc (2 ^ (width - 1) - 1) ≤ℤ number) × (number ≤ℤ pos (2 ^ (width - 1) - 1))
