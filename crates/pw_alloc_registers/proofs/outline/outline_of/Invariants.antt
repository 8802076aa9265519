use Rattle.std.proofs.Common.{◌≡◌, map, take}
use Rattle.pw_webflow.specs.WebOutline.{web_stretch}
use Rattle.pw_alloc_registers.proofs.outline.outline_of.Given as goal

abbrev pub invariant-loop-block : goal.invariant-loop-block
invariant-loop-block l = l.blocks ≡ map web_stretch (take l.block-index l.f.blocks)
