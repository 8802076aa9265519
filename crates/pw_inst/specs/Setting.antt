-- Words with other values in their fields: what a linker puts into LDIL, into a displacement of 14 bits
-- and into BL. All other bits of the word stay, whatever word it is.
use Rattle.std.specs.Prelude.{ℕ, ℤ, ◌+◌, ◌*◌, ◌/◌, ◌%◌, ◌^◌}
use Rattle.pw_inst.specs.Fields.{bits, field, at, low_sign}

-- the left 21 bits of an address, which LDIL puts into a register, and the 11 bits that it leaves to a
-- displacement
abbrev pub left_part : ℕ → ℕ
left_part address = address / 2 ^ 11

abbrev pub right_part : ℕ → ℕ
right_part address = address % 2 ^ 11

-- the low 21 bits of a number, as bits 11 to 31 of LDIL hold them
abbrev pub long_immediate_field : ℕ → ℕ
long_immediate_field im =
    at 11 5 (bits 2 5 im) + at 16 2 (bits 7 2 im) + at 18 2 (bits 0 2 im) + at 20 11 (bits 9 11 im) + at 31 1 (bits 20 1 im)

-- the low 17 bits of a number, as bits 11 to 15, 19 to 29 and 31 of BL hold them
abbrev pub branch_field : ℕ → ℕ
branch_field q = at 11 5 (bits 11 5 q) + at 19 10 (bits 0 10 q) + at 29 1 (bits 10 1 q) + at 31 1 (bits 16 1 q)

unfoldable pub with_long_immediate : ℕ → ℕ → ℕ
with_long_immediate word im = at 0 11 (field 0 11 word) + long_immediate_field im

unfoldable pub with_displacement : ℕ → ℤ → ℕ
with_displacement word im = at 0 18 (field 0 18 word) + at 18 14 (low_sign 14 im)

unfoldable pub with_branch : ℕ → ℕ → ℕ
with_branch word q = at 0 11 (field 0 11 word) + at 16 3 (field 16 3 word) + at 30 1 (field 30 1 word) + branch_field q

-- what the displacement fields of BL hold
unfoldable pub branch_bits : ℕ → ℕ
branch_bits word = field 31 1 word * 2 ^ 16 + field 11 5 word * 2 ^ 11 + field 29 1 word * 2 ^ 10 + field 19 10 word
