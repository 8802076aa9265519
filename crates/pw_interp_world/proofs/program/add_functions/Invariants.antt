use Rattle.std.proofs.Common.{◌≡◌, ◌++◌, take, map}
use Rattle.pw_typed.specs.Views.{view_function}
use Rattle.pw_cmean.specs.Worlds as worlds
use Rattle.pw_interp_world.specs.Views.{view_part, view_callables}
use Rattle.pw_interp_world.proofs.program.add_functions.Given as goal

abbrev pub invariant-loop-f : goal.invariant-loop-f
invariant-loop-f l = view_callables l.all.items ≡ view_callables l.fn.all.items ++ map (worlds.callable (view_part l.part)) (map view_function (take l.f-index l.f-items))
