use Rattle.std.proofs.Common.{◌≡◌}
use Rattle.pw_interp_functions.specs.Locals.{all_ended}
use Rattle.pw_interp_functions.proofs.locals.end_parameters.Given as goal

-- the objects that are left are still to end
abbrev pub invariant-loop-left : goal.invariant-loop-left
invariant-loop-left l = all_ended l.left l.number l.objects ≡ all_ended l.count l.number l.fn.objects

abbrev pub decreases-loop-left : goal.decreases-loop-left
decreases-loop-left l = l.left
