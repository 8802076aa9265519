use Rattle.pw_flow.specs.FlowGraph.{item_names}
use Rattle.pw_value.specs.ProgramNames.{IsOrdinary}
use Rattle.pw_flow.proofs.Lists.{ordinary}
use Rattle.pw_flow_valid.proofs.valid.is_global.Goals as goal

pub returns-then-is_laid_out : goal.returns-then-is_laid_out
returns-then-is_laid_out c =
    let all = ordinary (λ placed. item_names placed.1) IsOrdinary c.args.global.now.items in
    let items = rw c.as_slice.ensures at c.are_items_ordinary.ensures in
    (λ b. (c.is_laid_out.ensures.0 c.if-is_laid_out.true, all.0 (items.0 b)), λ h. items.1 (all.1 h.1))
