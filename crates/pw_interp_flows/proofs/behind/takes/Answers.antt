use Rattle.std.proofs.Common.{ap, sym, ◌∙◌, ◌++◌}
use Rattle.pw_types.specs.Labels.{labels_among, labels_behind, labels_of_arms}
use Rattle.pw_typed.specs.Views.{view_arms, view_otherwise, view_stmt_form, view_stmts}
use Rattle.pw_typed.proofs.Rows.{block_view, if_view}
use Rattle.pw_cmean.specs.Execution.{holds}
use Rattle.pw_interp_todo.specs.Members.{taken_in}
use Rattle.pw_interp_flows.proofs.behind.takes.Goals as goal

pub returns-in-Block : goal.returns-in-Block
returns-in-Block c =
    let t = c.args.s.now.token in
    let l = c.args.label in
    let b = c.in-Block in
    c.is_among.ensures
    ∙ ap (λ ss. holds (labels_among (view_stmts ss)) l) c.deref.ensures.value
    ∙ sym (ap (λ a. holds (taken_in a) l) (ap (view_stmt_form t) b.is ∙ block_view t b.first b.count b.initialisers b.items))

pub returns-in-If : goal.returns-in-If
returns-in-If c =
    let t = c.args.s.now.token in
    let l = c.args.label in
    let b = c.in-If in
    c.is_in_if.ensures
    ∙ ap (λ xs. holds (labels_of_arms (view_arms xs) ++ labels_behind (view_otherwise b.otherwise)) l) c.deref-in-If.ensures.value
    ∙ sym (ap (λ a. holds (taken_in a) l) (ap (view_stmt_form t) b.is ∙ if_view t b.arms b.otherwise))
