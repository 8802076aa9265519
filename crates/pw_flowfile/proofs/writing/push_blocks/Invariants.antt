use Rattle.std.proofs.Common.{◌≡◌, ◌++◌, take}
use Rattle.std.specs.List.{flat_map}
use Rattle.pw_flowfile.specs.FlowFile.{block}
use Rattle.pw_flowfile.proofs.writing.push_blocks.Given as goal

abbrev pub invariant-loop-block : goal.invariant-loop-block
invariant-loop-block l = l.out.items ≡ l.fn.out.items ++ flat_map (block l.names) (take l.block-index l.blocks)
