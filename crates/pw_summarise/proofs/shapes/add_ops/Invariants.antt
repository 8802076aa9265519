use Rattle.std.proofs.Common.{◌≡◌, ◌++◌, take}
use Rattle.std.specs.List.{flat_map}
use Rattle.pw_summarise.specs.Summarises.{called_shape}
use Rattle.pw_summarise.proofs.shapes.add_ops.Given as goal

abbrev pub invariant-loop-op : goal.invariant-loop-op
invariant-loop-op l = l.shapes.items ≡ l.fn.shapes.items ++ flat_map called_shape (take l.op-index l.ops)
