use Rattle.std.proofs.Common.{◌≡◌, ◌++◌, take}
use Rattle.std.specs.List.{flat_map}
use Rattle.pw_summarise.specs.Summarises.{called_shape}
use Rattle.pw_summarise.proofs.shapes.add_blocks.Given as goal

abbrev pub invariant-loop-block : goal.invariant-loop-block
invariant-loop-block l = l.shapes.items ≡ l.fn.shapes.items ++ flat_map (λ b. flat_map called_shape b.ops) (take l.block-index l.blocks)
