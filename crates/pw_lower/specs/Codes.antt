-- The code of a function while it is made: the blocks that are closed, and the one that is filled.
use Rattle.std.specs.Prelude.{ℕ, zero, suc, ◌+◌, ◌==◌, if◌then◌else◌, Option, Some, None, unwrap_or, List, [], ◌∷◌, ◌++◌, slice_get, slice_set}
use Rattle.pw_flow.specs.declared.flow.Op.{Op}
use Rattle.pw_flow.specs.declared.flow.Op.TheVariants as op
use Rattle.pw_flow.specs.declared.flow.End.{End}
use Rattle.pw_flow.specs.declared.flow.End.TheVariants.{Return}
use Rattle.pw_flow.specs.declared.flow.Block.{Block}
use Rattle.pw_lower.specs.declared.code.Code.{Code}
use Rattle.pw_lower.specs.declared.code.Numbered.{Numbered}

-- Code behind which a value may stand in a temporary; none where the value's type is void.
pub record Lowered : Type 0 where
  pub code : Code
  pub temp : Option ℕ

abbrev pub lowered_as : Option ℕ → Code → Lowered
lowered_as t c = record { code = c; temp = t }

abbrev pub value_is : ℕ → Code → Lowered
value_is t c = lowered_as (Some t) c

abbrev pub temp_of : Lowered → ℕ
temp_of x = unwrap_or x.temp 0

abbrev pub emit : Op → Code → Code
emit o c = record c { ops = c.ops ++ o ∷ [] }

-- Numbers for so many temporaries, from the count of temporaries on.
abbrev pub reserve_temps : ℕ → Code → Code
reserve_temps n c = record c { temps = c.temps + n }

-- an operation whose result is a new temporary
abbrev pub fresh : (ℕ → Op) → Code → Lowered
fresh o c = value_is c.temps (emit (o c.temps) (reserve_temps 1 c))

abbrev pub constant : ℕ → Code → Lowered
constant n c = fresh (λ t. op.Const t n) c

-- Numbers for so many blocks, from the count of blocks on.
abbrev pub reserve : ℕ → Code → Code
reserve n c = record c { blocks = c.blocks + n }

-- The block that is filled ends so, and a block of this number and depth is filled from here on.
abbrev pub cut : End → ℕ → ℕ → Code → Code
cut end number depth c = record c {
  closed = c.closed ++ record { number = c.cur; block = record { depth = c.depth; ops = c.ops; end = end } } ∷ [];
  cur = number;
  depth = depth;
  ops = [];
}

-- the same at the depth of the block that is filled
abbrev pub cut_here : End → ℕ → Code → Code
cut_here end number c = cut end number c.depth c

-- The block that is filled ends so, and a new block, to which nothing goes yet, is filled from here on.
abbrev pub leave : End → Code → Code
leave end c = cut_here end c.blocks (reserve 1 c)

-- ---- labels

-- the block that a label begins
abbrev pub block_of_label : Code → ℕ → ℕ
block_of_label c l = unwrap_or (slice_get c.labels l) 0

-- labels in order begin blocks from a number on
abbrev pub numbered : ℕ → List ℕ → List ℕ → List ℕ
numbered n [] blocks = blocks
numbered n (l ∷ rest) blocks = numbered (n + 1) rest (slice_set blocks l n)

abbrev pub named_from : ℕ → List ℕ → Code → Code
named_from n labels c = record c { labels = numbered n labels c.labels }

-- ---- the blocks in order

-- the first closed block of a number
abbrev pub block_of : List Numbered → ℕ → Option Block
block_of [] n = None
block_of (b ∷ rest) n = if b.number == n then Some b.block else block_of rest n

-- a block without operations that returns nothing
abbrev pub bare : Block
bare = record { depth = 0; ops = []; end = Return None }

-- the closed blocks of the numbers below n, in the order of their numbers
abbrev pub blocks_below : List Numbered → ℕ → List Block
blocks_below closed zero = []
blocks_below closed (suc n) = blocks_below closed n ++ unwrap_or (block_of closed n) bare ∷ []
