use Rattle.std.proofs.Common.{◌≡◌, take}
use Rattle.pw_value.proofs.shape.copied_shapes.Given as goal

abbrev pub invariant-loop-name : goal.invariant-loop-name
invariant-loop-name l = l.copies.items ≡ take l.name-index l.named
