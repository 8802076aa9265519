-- Sets of numbers as bits of a list of words of 64 bits.
use Rattle.std.specs.Prelude.{◌≡◌, ℕ, zero, suc, ◌/◌, ◌%◌, List, [], ◌∷◌, slice_index, if◌then◌else◌, ◌==◌}
use Rattle.std.specs.Int.{bit_at}

-- the words hold i: bit i mod 64 of word i / 64 is 1
abbrev pub HasBit : List ℕ → ℕ → Type 0
HasBit words i = bit_at (slice_index words (i / 64)) (i % 64) ≡ 1

-- of the k numbers from i on, those that the words hold, rising
abbrev pub held : List ℕ → ℕ → ℕ → List ℕ
held words i zero = []
held words i (suc k) = if (bit_at (slice_index words (i / 64)) (i % 64) == 1) then (i ∷ held words (suc i) k) else (held words (suc i) k)
