use Rattle.std.proofs.Common.{arith, sym, ◌∙◌}
use Rattle.pw_interp_calls.proofs.FunctionLemmas.{in_module, behind_module}
use Rattle.pw_interp_calls.proofs.world.defined_at.Goals as goal

pub returns-then-left-functions : goal.returns-then-left-functions
returns-then-left-functions c =
    sym
    (c.loop-part.invariant
    ∙ in_module c.args.parts.now c.loop-part.part-index c.part-item.result c.loop-part.left c.as_slice-functions.result.now
    (omega arith) c.part-item.is c.as_slice-functions.ensures.value c.index-functions-left.result (omega arith) c.index-functions-left.is)

pub loop-part-preserved : goal.loop-part-preserved
loop-part-preserved c =
    c.loop-part.invariant
    ∙ behind_module c.args.parts.now c.loop-part.part-index c.part-item.result c.loop-part.left c.as_slice-functions.result.now
    (omega arith) c.part-item.is c.as_slice-functions.ensures.value (omega arith)
