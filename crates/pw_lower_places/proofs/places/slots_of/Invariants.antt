use Rattle.std.proofs.Common.{◌≡◌, ◌++◌, drop, length}
use Rattle.pw_lower.specs.Modules.{slots_of}
use Rattle.pw_typed.specs.Views.{view_locals}
use Rattle.pw_lower_places.proofs.places.slots_of.Given as goal

-- the slots that are left stand behind those that are there
abbrev pub invariant-loop-local : goal.invariant-loop-local
invariant-loop-local l =
    l.slots ++ slots_of l.types (view_locals (drop (length l.yielded) l.locals)) (drop (length l.yielded) l.places)
    ≡ slots_of l.types (view_locals l.locals) l.places
