use Rattle.std.proofs.Common.{◌≡◌, map, take}
use Rattle.pw_lower.specs.Modules.{lowered_function}
use Rattle.pw_typed.specs.Views.{view_function}
use Rattle.pw_lstmt.proofs.modules.lower_functions.Given as goal

abbrev pub invariant-loop-f : goal.invariant-loop-f
invariant-loop-f l = l.functions ≡ map (lowered_function l.name l.types) (map view_function (take l.f-index l.all))
