-- Flow graphs whose operations name temporaries and slots that there are, and whose blocks end at blocks that there are.
use Rattle.std.specs.Prelude.{ℕ, ◌<◌, ◌≤◌, length}
use Rattle.std.specs.List.{AllByRecursion}
use Rattle.pw_flow.specs.declared.flow.Op.{Op}
use Rattle.pw_flow.specs.declared.flow.Block.{Block}
use Rattle.pw_flow.specs.declared.flow.FlowFn.{FlowFn}
use Rattle.pw_flow.specs.Uses.{op_uses, op_defines, op_slots}
use Rattle.pw_flow.specs.ValidFlow.{IsResult, IsEnd}

-- an operation, in a function with so many temporaries and slots: what it reads, what it writes and the slots it names
abbrev pub IsInRange : ℕ → ℕ → Op → Type 0
IsInRange temps slots o = AllByRecursion (λ a. a < temps) (op_uses o) × IsResult temps (op_defines o) × AllByRecursion (λ s. s < slots) (op_slots o)

-- a block, in a function with so many blocks too
pub record IsBlockInRange (temps slots blocks : ℕ) (b : Block) : Type 0 where
  pub ops : AllByRecursion (IsInRange temps slots) b.ops
  pub end : IsEnd temps blocks b.end

pub record IsFunctionInRange (f : FlowFn) : Type 0 where
  pub params : f.params ≤ f.temps
  pub start : 0 < length f.blocks
  pub blocks : AllByRecursion (IsBlockInRange f.temps (length f.slots) (length f.blocks)) f.blocks
