-- That a flow graph contains code, where in it a machine is, and what code begins.
use Rattle.std.specs.Prelude.{ℕ, ◌≡◌, ◌+◌, ◌≤◌, ◌==◌, nat_lt, if◌then◌else◌, Some, List, [], ◌∷◌, ◌++◌, length, Contains}
use Rattle.pw_flow.specs.declared.flow.Op.{Op}
use Rattle.pw_flow.specs.declared.flow.Block.{Block}
use Rattle.pw_flow.specs.declared.flow.FlowFn.{FlowFn}
use Rattle.pw_lower.specs.declared.code.Code.{Code}
use Rattle.pw_lower.specs.declared.code.Numbered.{Numbered}
use Rattle.pw_law_source.specs.FromRunLanguages.Programs.{block_at}
use Rattle.pw_law_source.specs.FromRunLanguages.FlowRun.{Machine}

-- ---- code in a graph

-- the block of a number begins with these operations
pub record BeginsWith (g : FlowFn) (number : ℕ) (first : List Op) : Type 0 where
  pub block : Block
  pub rest : List Op
  pub there : block_at g number ≡ Some block
  pub ops : block.ops ≡ first ++ rest

-- Each block that the code has closed stands at its number, the block that it fills begins with its operations, and
-- there is room for its temporaries and blocks.
pub record ContainsCode (g : FlowFn) (c : Code) : Type 0 where
  pub closed : (b : Numbered) → Contains c.closed b → block_at g b.number ≡ Some b.block
  pub filled : BeginsWith g c.cur c.ops
  pub temps : c.temps ≤ g.temps
  pub blocks : c.blocks ≤ length g.blocks

-- the machine is in a block, behind these of its operations
pub record IsAt (g : FlowFn) (number : ℕ) (done : List Op) (m : Machine) : Type 0 where
  pub block : Block
  pub there : block_at g number ≡ Some block
  pub here : m.frame.block ≡ number
  pub ops : block.ops ≡ done ++ m.frame.ops
  pub end : m.frame.end ≡ block.end

-- the machine has run the code, and goes on with what comes behind it
abbrev pub IsBehind : FlowFn → Code → Machine → Type 0
IsBehind g c m = IsAt g c.cur c.ops m

-- ---- what code begins

-- 1 where two numbers are one
abbrev pub same : ℕ → ℕ → ℕ
same n b = if n == b then 1 else 0

-- 1 where a number is below a count, as those are that were given out
abbrev pub given : ℕ → ℕ → ℕ
given b count = if nat_lt b count then 1 else 0

-- how often a number stands in a list, and how often a block of it was closed
abbrev pub times : ℕ → List ℕ → ℕ
times b [] = 0
times b (n ∷ rest) = same n b + times b rest

abbrev pub times_closed : ℕ → List Numbered → ℕ
times_closed b [] = 0
times_closed b (d ∷ rest) = same d.number b + times_closed b rest

-- how often a block of a number was begun: it is filled, or closed
abbrev pub begun : ℕ → Code → ℕ
begun b c = same c.cur b + times_closed b c.closed

-- The later code begins blocks whose numbers were given out since, each once; and besides them those of a list, each as
-- often as it stands there: the blocks of the labels in what was lowered.
pub record Spreads (c d : Code) (labels : List ℕ) : Type 0 where
  pub blocks : (b : ℕ) → begun b d + given b c.blocks ≤ begun b c + given b d.blocks + times b labels
  pub counts : c.blocks ≤ d.blocks
  pub temps : c.temps ≤ d.temps
