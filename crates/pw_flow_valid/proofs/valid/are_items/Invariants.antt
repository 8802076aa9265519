use Rattle.std.proofs.Common.{◌↔◌, length}
use Rattle.pw_flow.specs.ValidFlow.{AreItems}
use Rattle.pw_flow_valid.proofs.valid.are_items.Given as goal

abbrev pub invariant-loop-left : goal.invariant-loop-left
invariant-loop-left l = AreItems l.size l.free l.left ↔ AreItems l.size 0 l.items

abbrev pub decreases-loop-left : goal.decreases-loop-left
decreases-loop-left l = length l.left
