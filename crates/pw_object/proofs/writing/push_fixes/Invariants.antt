use Rattle.std.proofs.Common.{◌≡◌, ◌++◌, take}
use Rattle.std.specs.List.{flat_map}
use Rattle.pw_object.specs.Functions.{fix}
use Rattle.pw_object.proofs.writing.push_fixes.Given as goal

abbrev pub invariant-loop-fix : goal.invariant-loop-fix
invariant-loop-fix l = l.out.items ≡ l.fn.out.items ++ flat_map (fix l.names) (take l.fix-index l.fixes)
