use Rattle.std.proofs.Common.{◌≡◌, Some, drop}
use Rattle.pw_check_walk.specs.Walks.{outcome}
use Rattle.pw_check_state.specs.StateViews.{view_state}
use Rattle.pw_check_rules.specs.Phrases.{enumerators_rule}
use Rattle.pw_tree.specs.Views.{view_enumerators}
use Rattle.pw_check_specifier_lists.proofs.enumerations.enumerators.Given as goal

-- what is left of the list comes to what all of it does
abbrev pub invariant-loop-next : goal.invariant-loop-next
invariant-loop-next g l =
    outcome (enumerators_rule (view_enumerators l.list) (Some 0) (view_state l.initial.state))
    ≡ outcome (enumerators_rule (view_enumerators (drop l.next-index l.list)) l.value (view_state l.state))
