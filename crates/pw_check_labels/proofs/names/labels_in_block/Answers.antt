use Rattle.std.proofs.Common.{◌++◌, ap, ◌∙◌}
use Rattle.pw_check_rules.specs.Statements.{labels_in_block, labels_in_list}
use Rattle.pw_tree.specs.Views.{view_stmts}
use Rattle.pw_check_labels.proofs.names.labels_in_block.Goals as goal

pub returns : goal.returns
unfolding labels_in_block
returns c =
    c.in_ok-add_labels_of_all.ensures
    ∙ ap (λ ss. c.new-names.result ++ labels_in_list (view_stmts ss)) c.deref.ensures.value
    ∙ ap (λ ns. ns ++ labels_in_list (view_stmts c.args.block.now.statements.items)) c.new-names.ensures
