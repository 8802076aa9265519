-- What a row of bits holds.
use Rattle.std.specs.Prelude.{ℕ, List, length}
use Rattle.pw_fix.specs.Words.{HasBit, held}
use Rattle.pw_fix.specs.declared.bit_row.BitRow.{BitRow}

-- the row holds the number i
abbrev pub Holds : BitRow → ℕ → Type 0
Holds row i = HasBit row.words.items i

-- the numbers that it holds, rising
abbrev pub members : BitRow → List ℕ
members row = held row.words.items 0 row.len

-- each number of a is one of b
abbrev pub IsSubset : BitRow → BitRow → Type 0
IsSubset a b = (i : ℕ) → Holds a i → Holds b i

-- how many numbers it holds
abbrev pub member_count : BitRow → ℕ
member_count row = length (members row)
