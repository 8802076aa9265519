use Rattle.std.proofs.Common.{◌≡◌, ◌-◌, ◌≤◌, drop, length}
use Rattle.pw_lower.specs.Modules.{parameters_stored}
use Rattle.pw_typed.specs.Views.{view_locals}
use Rattle.pw_lower_places.proofs.places.store_parameters.Given as goal

-- the parameters that are left are still to be stored
abbrev pub invariant-loop-local : goal.invariant-loop-local
invariant-loop-local l =
    (parameters_stored (view_locals (drop (length l.yielded) l.locals)) (drop (length l.yielded) l.places) l.number (l.params - l.number) l.code
    ≡ parameters_stored (view_locals l.locals) l.places 0 l.params l.fn.code)
    × (l.number ≤ l.params)
