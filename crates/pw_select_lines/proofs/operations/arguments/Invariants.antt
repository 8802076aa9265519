use Rattle.std.proofs.Common.{◌≡◌, map, take}
use Rattle.pw_select_lines.specs.Registers.{place_of}
use Rattle.pw_select_lines.proofs.operations.arguments.Given as goal

abbrev pub invariant-loop-a : goal.invariant-loop-a
invariant-loop-a l = l.list.items ≡ map (place_of l.places) (take l.a-index l.args)
