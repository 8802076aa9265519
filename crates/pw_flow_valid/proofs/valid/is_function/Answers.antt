use Rattle.std.proofs.Common.{length}
use Rattle.pw_flow.specs.FlowGraph.{names_in_block}
use Rattle.pw_value.specs.ProgramNames.{IsOrdinary}
use Rattle.pw_flow.specs.ValidFlow.{IsBlock}
use Rattle.pw_flow.proofs.Lists.{lawful}
use Rattle.pw_flow_valid.proofs.valid.is_function.Goals as goal

pub returns-then-has_few_parts : goal.returns-then-has_few_parts
returns-then-has_few_parts c =
    let f = c.args.function.now in
    let all = lawful (IsBlock f.temps (length f.slots) (length f.blocks)) names_in_block IsOrdinary f.blocks in
    let blocks = rw (c.as_slice-slots.ensures, c.as_slice-blocks.ensures) at c.are_blocks.ensures in (
      λ b. let both = all.0 (blocks.0 b) in (record { few = c.has_few_parts.ensures.0 c.if-has_few_parts.true; blocks = both.0 }, both.1),
      λ h. blocks.1 (all.1 (h.0.blocks, h.1)),
    )
