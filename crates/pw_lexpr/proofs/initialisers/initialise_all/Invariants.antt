use Rattle.std.proofs.Common.{◌≡◌, drop}
use Rattle.pw_lower.specs.Statements.{initialised_all}
use Rattle.pw_typed.specs.Views.{view_locals, view_initialisers}
use Rattle.pw_lexpr.specs.Homes.{view_home}
use Rattle.pw_lexpr.proofs.initialisers.initialise_all.Given as goal

-- the initialisers that are left are still to be lowered
abbrev pub invariant-loop-initialiser : goal.invariant-loop-initialiser
invariant-loop-initialiser l =
    initialised_all (view_home l.frame.home) (view_locals l.frame.locals.now) (view_initialisers (drop l.initialiser-index l.all)) l.code
    ≡ initialised_all (view_home l.frame.home) (view_locals l.frame.locals.now) (view_initialisers l.all) l.fn.code
