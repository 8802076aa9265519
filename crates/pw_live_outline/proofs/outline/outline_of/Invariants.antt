use Rattle.std.proofs.Common.{◌≡◌, map, take}
use Rattle.pw_flow.specs.Outline.{stretch_of}
use Rattle.pw_live_outline.proofs.outline.outline_of.Given as goal

abbrev pub invariant-loop-block : goal.invariant-loop-block
invariant-loop-block l = l.blocks.items ≡ map stretch_of (take l.block-index l.f.blocks)
