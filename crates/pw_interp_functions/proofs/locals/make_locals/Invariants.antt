use Rattle.std.proofs.Common.{◌≡◌, ◌-◌}
use Rattle.pw_interp_calls.specs.Views.{view_env}
use Rattle.pw_interp_functions.specs.Locals.{made}
use Rattle.pw_interp_functions.proofs.locals.make_locals.Given as goal

-- the locals that are left are still to be made
abbrev pub invariant-loop-i : goal.invariant-loop-i
invariant-loop-i l = made (l.count - l.i) l.i (view_env l.inner) l.objects ≡ made l.count 0 (view_env l.fn.env) l.fn.objects
