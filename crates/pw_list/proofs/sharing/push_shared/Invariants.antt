use Rattle.std.proofs.Common.{◌≡◌, ◌++◌, take}
use Rattle.std.specs.List.{flat_map}
use Rattle.pw_list.specs.DatabaseText.{shared_lines}
use Rattle.pw_list.proofs.sharing.push_shared.Given as goal

abbrev pub invariant-loop-function : goal.invariant-loop-function
invariant-loop-function l = l.out.items ≡ l.fn.out.items ++ flat_map shared_lines (take l.function-index l.functions)
