-- The items so far stand in the memory, which is as long as it was.
use Rattle.std.proofs.Common.{◌≡◌, length, take}
use Rattle.pw_machine.specs.Start.{with_items}
use Rattle.pw_machine.proofs.start.put_items.Given as goal

abbrev pub invariant-loop-item : goal.invariant-loop-item
invariant-loop-item l = (l.memory ≡ with_items l.initial.memory l.at (take l.item-index l.items)) × (length l.memory ≡ length l.initial.memory)
