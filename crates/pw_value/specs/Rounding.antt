-- Counts of bytes at the next place of eight, and the start of the stack.
use Rattle.std.specs.Prelude.{ℕ, ◌+◌, ◌/◌, ◌*◌}

-- a number of bytes rounded up to a multiple of 8
abbrev pub round8 : ℕ → ℕ
round8 n = (n + 7) / 8 * 8

-- what an object takes of a frame or of the data: a byte more than its size, rounded up to a multiple of 8
abbrev pub slot_room : ℕ → ℕ
slot_room size = round8 (size + 1)

-- a number of bytes rounded up to a multiple of 64
abbrev pub round64 : ℕ → ℕ
round64 n = (n + 63) / 64 * 64

-- where the stack begins above data that end at an address: 64 bytes above that, rounded up to a multiple of 64
abbrev pub stack_start : ℕ → ℕ
stack_start end = round64 end + 64
