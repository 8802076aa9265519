-- What is known in a function as a problem of the solver: its blocks are nodes. Whatever flows into the first from others, all may
-- be anything there, as it is the start. From block to block flows what is known of shared temporaries.
use Rattle.std.specs.Prelude.{ℕ, ◌≡◌, ◌==◌, ◌<◌, if◌then◌else◌, Bool, true, All, Option, Some, None, List, replicate, length, map, slice_get, Contains}
use Rattle.std.specs.List.{AllByRecursion}
use Rattle.pw_flow.specs.declared.flow.Op.{Op}
use Rattle.pw_flow.specs.declared.flow.Block.{Block}
use Rattle.pw_flow.specs.declared.flow.FlowFn.{FlowFn}
use Rattle.pw_flow.specs.Uses.{successors}
use Rattle.pw_opt_rules.specs.declared.flat.Flat.{Flat}
use Rattle.pw_opt_rules.specs.declared.flat.Flat.TheVariants.{Many}
use Rattle.pw_opt_rules.specs.Rows.{known, front, behind, IsLeastSolution}
use Rattle.pw_opt_places.specs.declared.places.Places.{Places}
use Rattle.pw_opt_places.specs.Places.{IsShared}
use Rattle.pw_opt_rows.specs.Seeing.{rested, taken}

-- there is a block to start at, and each block goes on at blocks that are there
pub record HasWays (blocks : List Block) : Type 0 where
  pub start : 0 < length blocks
  pub within : AllByRecursion (λ (b : Block). AllByRecursion (λ c. c < length blocks) (successors b.end)) blocks

-- what is known at the front of a block into which this flows from others: at the start all may be anything
abbrev pub entered : ℕ → ℕ → List Flat → List Flat
entered count n row = if n == 0 then replicate count Many else row

-- what flows out of a block: what is known behind its operations
abbrev pub outflow_by : (List Flat → Op → List Flat) → Places → List Flat → Option Block → List Flat
outflow_by transfer ps shared (Some b) = taken ps.names.items (behind transfer (rested ps.places.items shared) b.ops)
outflow_by transfer ps shared None = shared

abbrev pub outflow : (List Flat → Op → List Flat) → Places → List Block → ℕ → List Flat → List Flat
outflow transfer ps blocks n shared = outflow_by transfer ps (entered (length ps.names.items) n shared) (slice_get blocks n)

abbrev pub IsOutflow : (List Flat → Op → List Flat) → Places → List Block → ℕ → List Flat × List Flat → List Flat × List Flat → Type 0
IsOutflow transfer ps blocks n x y = y.0 ≡ outflow transfer ps blocks n x.0

-- from a block to those at which it may go on
abbrev pub IsEdge : List Block → ℕ → ℕ → Type 0
IsEdge blocks m n = (block : Block) × (slice_get blocks m ≡ Some block) × Contains (successors block.end) n

-- a rewriting is about all operations of a block
abbrev pub AreAbout : (Op → Bool) → Block → Type 0
AreAbout is_about b = All (λ o. is_about o ≡ true) b.ops

-- what is known of all temporaries by rows at the fronts of blocks
abbrev pub all_rested : Places → List (List Flat × List Flat) → List (List Flat)
all_rested ps rows = map (λ (row : List Flat × List Flat). rested ps.places.items row.0) rows

-- rows that have of shared temporaries what is known of them at the fronts of blocks, by the least solution
pub record AreFronts (transfer : List Flat → Op → List Flat) (ps : Places) (f : FlowFn) (rows : List (List Flat × List Flat)) : Type 0 where
  pub each_block : length rows ≡ length f.blocks
  pub least : List (List Flat)
  pub known_least : IsLeastSolution transfer f least
  pub same : (b t : ℕ) → b < length f.blocks → IsShared ps.places.items t → known (front (all_rested ps rows) b) t ≡ known (front least b) t
