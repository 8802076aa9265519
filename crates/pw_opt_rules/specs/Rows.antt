-- What is known of all temporaries at the front of each block of a function, as the least solution of what its operations
-- make of it. A row has what is known of temporary t at its place t; a transfer says what is known behind an operation.
use Rattle.std.specs.Prelude.{ℕ, ◌≡◌, ◌<◌, List, [], ◌∷◌, length, Some, slice_get, slice_index_or, Contains}
use Rattle.pw_flow.specs.declared.flow.Op.{Op}
use Rattle.pw_flow.specs.declared.flow.Block.{Block}
use Rattle.pw_flow.specs.declared.flow.FlowFn.{FlowFn}
use Rattle.pw_flow.specs.Uses.{successors}
use Rattle.pw_opt_rules.specs.declared.flat.Flat.{Flat}
use Rattle.pw_opt_rules.specs.declared.flat.Flat.TheVariants.{Many}
use Rattle.pw_opt_rules.specs.Flat.{IsBelow}

abbrev pub known : List Flat → ℕ → Flat
known row t = slice_index_or row t Many

abbrev pub IsRowBelow : List Flat → List Flat → Type 0
IsRowBelow xs ys = (t : ℕ) → IsBelow (known xs t) (known ys t)

-- what is known behind operations that follow one another
abbrev pub behind : (List Flat → Op → List Flat) → List Flat → List Op → List Flat
behind transfer row [] = row
behind transfer row (o ∷ ops) = behind transfer (transfer row o) ops

-- the row at the front of a block
abbrev pub front : List (List Flat) → ℕ → List Flat
front rows b = slice_index_or rows b []

-- Rows that answer for the paths of a function. At its start a temporary may hold anything; and what is known behind the
-- operations of a block is at or below what is known at the front of each block at which it may go on.
pub record IsSolution (transfer : List Flat → Op → List Flat) (f : FlowFn) (rows : List (List Flat)) : Type 0 where
  pub each_block : length rows ≡ length f.blocks
  pub each_temp : (b : ℕ) → b < length f.blocks → length (front rows b) ≡ f.temps
  pub start : (t : ℕ) → known (front rows 0) t ≡ Many
  pub flows : (b c : ℕ) (block : Block) → slice_get f.blocks b ≡ Some block → Contains (successors block.end) c
      → IsRowBelow (behind transfer (front rows b) block.ops) (front rows c)

-- those that know most
pub record IsLeastSolution (transfer : List Flat → Op → List Flat) (f : FlowFn) (rows : List (List Flat)) : Type 0 where
  pub solution : IsSolution transfer f rows
  pub least : (others : List (List Flat)) → IsSolution transfer f others → (b : ℕ) → IsRowBelow (front rows b) (front others b)
