use Rattle.std.proofs.Common.{◌≡◌, take}
use Rattle.pw_flow.proofs.globals.copy_items.Given as goal

abbrev pub invariant-loop-offset : goal.invariant-loop-offset
invariant-loop-offset l = l.copies ≡ take l.offset-index l.items
