-- Numbers as far as so many bits can tell them: a greater one is the greatest that they can.
use Rattle.std.specs.Prelude.{ℕ, ◌-◌, ◌^◌, min}

-- in 32 bits
abbrev pub clipped : ℕ → ℕ
clipped n = min n (2 ^ 32 - 1)

-- in 64 bits
abbrev pub capped : ℕ → ℕ
capped n = min n (2 ^ 64 - 1)
