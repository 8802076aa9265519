use Rattle.pw_flow.specs.FlowGraph.{op_names}
use Rattle.pw_value.specs.ProgramNames.{IsOrdinary}
use Rattle.pw_flow.specs.ValidFlow.{IsOp}
use Rattle.pw_flow.proofs.Lists.{lawful}
use Rattle.pw_flow_valid.proofs.valid.is_block.Goals as goal

pub returns-then-are_ops : goal.returns-then-are_ops
returns-then-are_ops c =
    let all = lawful (IsOp c.args.temps c.args.slots) op_names IsOrdinary c.args.block.now.ops in
    let ops = rw c.as_slice.ensures at c.are_ops.ensures in
    let both = all.0 (ops.0 c.if-are_ops.true) in
    (λ b. (record { depth = c.known.ensures; ops = both.0; end = c.is_end.ensures.0 b }, both.1), λ h. c.is_end.ensures.1 h.0.end)

pub returns-else-are_ops : goal.returns-else-are_ops
returns-else-are_ops c =
    let all = lawful (IsOp c.args.temps c.args.slots) op_names IsOrdinary c.args.block.now.ops in
    let ops = rw c.as_slice.ensures at c.are_ops.ensures in
    (λ b. absurd cc, λ h. ops.1 (all.1 (h.0.ops, h.1)))
