use Rattle.std.proofs.Common.{◌≡◌, ◌++◌, take}
use Rattle.std.specs.List.{flat_map}
use Rattle.pw_flowfile.specs.FlowFile.{function}
use Rattle.pw_flowfile.proofs.writing.push_function_items.Given as goal

abbrev pub invariant-loop-function : goal.invariant-loop-function
invariant-loop-function l = l.out.items ≡ l.fn.out.items ++ flat_map (function l.names) (take l.function-index l.functions)
