use Rattle.std.proofs.Common.{◌≡◌, drop, length}
use Rattle.pw_check_state.specs.PhraseViews.{view_derivations, view_spot}
use Rattle.pw_check_state.specs.StateViews.{view_state}
use Rattle.pw_types.specs.Views.{view_qtype}
use Rattle.pw_check_walk.specs.Walks.{outcome}
use Rattle.pw_check_rules.specs.Derivations.{stepped}
use Rattle.pw_check_limits.proofs.derivations.stepped.Given as goal

-- what is left of the steps comes to what all of them do
abbrev pub invariant-loop-step : goal.invariant-loop-step
invariant-loop-step l =
    outcome (stepped (view_spot l.spot) (view_derivations l.fn.derivations.items) (view_qtype l.fn.base) (view_state l.state))
    ≡ outcome (stepped (view_spot l.spot) (view_derivations (drop (length l.yielded) l.fn.derivations.items)) (view_qtype l.q) (view_state l.state))
