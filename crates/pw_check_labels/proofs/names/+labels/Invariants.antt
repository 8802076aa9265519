use Rattle.std.proofs.Common.{◌≡◌, ◌++◌, drop}
use Rattle.pw_check_rules.specs.Statements.{labels_in_alternative, labels_in_list}
use Rattle.pw_tree.specs.Trees.{NoElse}
use Rattle.pw_tree.specs.Views.{view_else_ifs, view_stmts}
use Rattle.pw_check_labels.proofs.names.+labels.Given as goal

-- those so far and those of the rest
abbrev pub invariant-add_labels_of_all-loop-stmt : goal.invariant-add_labels_of_all-loop-stmt
invariant-add_labels_of_all-loop-stmt l =
    l.names ++ labels_in_list (view_stmts (drop l.stmt-index l.statements)) ≡ l.fn.names ++ labels_in_list (view_stmts l.statements)

abbrev pub invariant-add_labels_of_arms-loop-else_if : goal.invariant-add_labels_of_arms-loop-else_if
invariant-add_labels_of_arms-loop-else_if l =
    l.names ++ labels_in_alternative (view_else_ifs (drop l.else_if-index l.else_ifs) NoElse) ≡ l.fn.names ++ labels_in_alternative (view_else_ifs l.else_ifs NoElse)
