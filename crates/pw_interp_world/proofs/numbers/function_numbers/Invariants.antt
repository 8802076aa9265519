use Rattle.std.proofs.Common.{◌≡◌, take, map}
use Rattle.pw_interp_world.specs.Names.{number_among}
use Rattle.pw_interp_world.specs.Views.{view_callables}
use Rattle.pw_interp_world.proofs.numbers.function_numbers.Given as goal

abbrev pub invariant-loop-callable : goal.invariant-loop-callable
invariant-loop-callable l = l.numbers.items ≡ map (λ f. number_among (view_callables l.callables) f.name) (view_callables (take l.callable-index l.callables))
