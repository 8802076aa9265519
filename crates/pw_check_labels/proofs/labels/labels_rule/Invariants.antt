use Rattle.std.proofs.Common.{◌≡◌, ◌∷◌, drop}
use Rattle.pw_check_state.specs.StateViews.{view_state}
use Rattle.pw_check_labels.proofs.Gathering.{behind_all}
use Rattle.pw_check_rules.specs.Statements.{labels_rule}
use Rattle.pw_tree.specs.Views.{view_labels}
use Rattle.pw_check_walk.specs.Walks.{outcome}
use Rattle.pw_check_labels.proofs.labels.labels_rule.Given as goal

-- what is left comes to what the whole does
abbrev pub invariant-loop-label : goal.invariant-loop-label
invariant-loop-label g l =
    outcome (labels_rule (view_labels l.labels) (view_state l.fn.state))
    ≡ outcome (behind_all ◌∷◌ l.numbers.items (labels_rule (view_labels (drop l.label-index l.labels)) (view_state l.state)))
