-- Sets of registers as the bits of a word.
use Rattle.std.specs.Prelude.{ℕ, ◌≡◌, ◌==◌, Bool}
use Rattle.std.specs.Int.{bit_at}

abbrev pub in_mask : ℕ → ℕ → Bool
in_mask mask r = bit_at mask r == 1

abbrev pub HasRegister : ℕ → ℕ → Type 0
HasRegister mask r = bit_at mask r ≡ 1
