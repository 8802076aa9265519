use Rattle.std.proofs.Common.{◌≡◌, map, take}
use Rattle.pw_flow.specs.Outline.{act_of}
use Rattle.pw_live_outline.proofs.outline.acts.Given as goal

abbrev pub invariant-loop-op : goal.invariant-loop-op
invariant-loop-op l = l.acts.items ≡ map act_of (take l.op-index l.ops)
