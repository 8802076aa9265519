use Rattle.std.proofs.Common.{◌≡◌, drop, map}
use Rattle.pw_check_state.specs.EntityViews.{view_linked}
use Rattle.pw_check_state.specs.StateViews.{view_state}
use Rattle.pw_check_rules.specs.Modules.{end_rule}
use Rattle.pw_check_walk.specs.Walks.{outcome}
use Rattle.pw_check.proofs.modules.end_rule.Given as goal

-- what is left comes to what the whole does
abbrev pub invariant-loop-next : goal.invariant-loop-next
invariant-loop-next l =
    outcome (end_rule (map view_linked l.linked) (view_state l.state))
    ≡ outcome (end_rule (map view_linked (drop l.next-index l.linked)) (view_state l.state))
