use Rattle.std.proofs.Common.{◌≡◌, ◌++◌, drop, length}
use Rattle.pw_typed.specs.Views.{view_locals}
use Rattle.pw_lower_places.specs.Placing.{placed}
use Rattle.pw_lower_places.proofs.places.place_locals.Given as goal

-- the places of the locals that are left stand behind those that are there
abbrev pub invariant-loop-local : goal.invariant-loop-local
invariant-loop-local l =
    l.places.items ++ placed (drop (length l.yielded) l.addressed) l.params l.number l.temp l.slot (view_locals (drop (length l.yielded) l.locals))
    ≡ placed l.addressed l.params 0 l.params 0 (view_locals l.locals)
