use Rattle.std.proofs.Common.{◌≡◌, take, map}
use Rattle.pw_interp_world.specs.Views.{view_callables}
use Rattle.pw_interp_world.proofs.lists.names_of.Given as goal

abbrev pub invariant-loop-callable : goal.invariant-loop-callable
invariant-loop-callable l = l.list ≡ map (λ f. f.name) (view_callables (take l.callable-index l.callables))
