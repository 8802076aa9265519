-- Tables of the words at which blocks begin.
use Rattle.std.specs.Prelude.{ℕ, ◌≤◌, unwrap_or, nat_eq}
use Rattle.indexmap.specs.IndexMap.{get}
use Rattle.pw_delay.specs.declared.marking.Blocks.{Blocks}

-- the word of a block in a table of marks; a block without a mark begins at the end
abbrev pub begins : Blocks → ℕ → ℕ
begins blocks b = unwrap_or (get nat_eq blocks.marks b) blocks.end

abbrev pub AreWithin : ℕ → Blocks → Type 0
AreWithin limit blocks = (b : ℕ) → begins blocks b ≤ limit
