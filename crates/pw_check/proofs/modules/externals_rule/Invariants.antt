use Rattle.std.proofs.Common.{◌≡◌, drop}
use Rattle.pw_check_state.specs.StateViews.{view_state}
use Rattle.pw_check_rules.specs.Modules.{externals_rule}
use Rattle.pw_tree.specs.Views.{view_externals}
use Rattle.pw_check_walk.specs.Walks.{outcome}
use Rattle.pw_check.proofs.modules.externals_rule.Given as goal

-- what is left comes to what the whole does
abbrev pub invariant-loop-external : goal.invariant-loop-external
invariant-loop-external l =
    outcome (externals_rule (view_externals l.externals) (view_state l.fn.state))
    ≡ outcome (externals_rule (view_externals (drop l.external-index l.externals)) (view_state l.state))
