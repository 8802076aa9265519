use Rattle.std.proofs.Common.{◌≡◌, ◌++◌, map, take}
use Rattle.std.specs.List.{flat_map}
use Rattle.pw_flow.specs.FlowGraph.{names_in_block}
use Rattle.pw_flowfile.proofs.used.add_blocks.Given as goal

abbrev pub invariant-loop-block : goal.invariant-loop-block
invariant-loop-block l = map (λ name. name.now) l.used.items ≡ map (λ name. name.now) l.fn.used.items ++ flat_map names_in_block (take l.block-index l.blocks)
