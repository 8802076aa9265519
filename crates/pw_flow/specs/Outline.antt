-- The outline of a function: what liveness needs of a flow graph, whatever its operations are. Each operation is
-- what it reads, what it writes and whether it calls; each block is what it does, what its end reads and where it
-- goes on.
use Rattle.std.specs.Prelude.{ℕ, Bool, Option, List, map}
use Rattle.pw_flow.specs.declared.flow.Op.{Op}
use Rattle.pw_flow.specs.declared.flow.Block.{Block}
use Rattle.pw_flow.specs.declared.flow.FlowFn.{FlowFn}
use Rattle.pw_flow.specs.Uses.{op_uses, op_defines, op_calls, end_uses, successors}

-- an operation
pub record Act : Type 0 where
  pub defines : Option ℕ
  pub uses : List ℕ
  pub calls : Bool

-- a block: the depth of the loops around it, its operations, the uses of its end and its successors
pub record Stretch : Type 0 where
  pub depth : ℕ
  pub acts : List Act
  pub uses : List ℕ
  pub next : List ℕ

-- a function of so many parameters, which are the first of so many temporaries; it starts at block 0
pub record Outline : Type 0 where
  pub params : ℕ
  pub temps : ℕ
  pub blocks : List Stretch

abbrev pub act_of : Op → Act
act_of o = record { defines = op_defines o; uses = op_uses o; calls = op_calls o }

abbrev pub stretch_of : Block → Stretch
stretch_of b = record { depth = b.depth; acts = map act_of b.ops; uses = end_uses b.end; next = successors b.end }

abbrev pub outline_of : FlowFn → Outline
outline_of f = record { params = f.params; temps = f.temps; blocks = map stretch_of f.blocks }
