use Rattle.std.proofs.Common.{◌≡◌, map, take}
use Rattle.pw_webflow.specs.WebOutline.{web_act}
use Rattle.pw_alloc_registers.proofs.outline.acts.Given as goal

abbrev pub invariant-loop-op : goal.invariant-loop-op
invariant-loop-op l = l.acts ≡ map web_act (take l.op-index l.ops)
