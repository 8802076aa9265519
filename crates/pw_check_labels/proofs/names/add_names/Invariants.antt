use Rattle.std.proofs.Common.{◌≡◌, ◌++◌, drop}
use Rattle.pw_check_rules.specs.Statements.{names_of_labels}
use Rattle.pw_tree.specs.Views.{view_labels}
use Rattle.pw_check_labels.proofs.names.add_names.Given as goal

-- those so far and those of the rest
abbrev pub invariant-loop-label : goal.invariant-loop-label
invariant-loop-label l = l.names ++ names_of_labels (view_labels (drop l.label-index l.labels)) ≡ l.fn.names ++ names_of_labels (view_labels l.labels)
