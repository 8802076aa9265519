use Rattle.std.proofs.Common.{◌≡◌, ◌++◌, ◌<◌, ℕ, get_or, take}
use Rattle.std.specs.List.{flat_map}
use Rattle.pw_object.specs.declared.functions.ObjectFn.{ObjectFn}
use Rattle.pw_object.specs.Functions.{function}
use Rattle.pw_object.specs.Object.{FitsFunction}
use Rattle.pw_object.proofs.writing.push_functions.Given as goal

abbrev pub invariant-loop-function : goal.invariant-loop-function
invariant-loop-function l = record {
  written : l.out.items ≡ l.fn.out.items ++ flat_map (function l.names) (take l.function-index l.functions);
  fits : (k : ℕ) → k < l.function-index → (d : ObjectFn) → FitsFunction (get_or l.functions k d);
}
