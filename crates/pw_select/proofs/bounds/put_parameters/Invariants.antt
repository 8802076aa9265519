use Rattle.std.proofs.Common.{◌≡◌, ◌-◌, ◌++◌}
use Rattle.pw_select.specs.Selection.{parameters_in}
use Rattle.pw_select.proofs.bounds.put_parameters.Given as goal

abbrev pub invariant-loop-k : goal.invariant-loop-k
invariant-loop-k l = l.out ++ parameters_in l.frame l.places l.k (l.count - l.k) ≡ l.fn.out ++ parameters_in l.frame l.places 0 l.count
