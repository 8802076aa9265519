use Rattle.std.proofs.Common.{ap, sym, ◌∙◌}
use Rattle.pw_typed.specs.Views.{view_arms, view_initialisers, view_otherwise, view_stmt, view_stmt_form, view_stmts}
use Rattle.pw_typed.proofs.Rows.{block_view, if_view}
use Rattle.pw_cmean.specs.Execution.{behind_labels, meaning}
use Rattle.pw_cmean.specs.SourceRun.{calls}
use Rattle.pw_interp_todo.specs.Flows.{view_entry}
use Rattle.pw_interp_entries.proofs.Listing.{once_block, once_if, once_label}
use Rattle.pw_interp_entries.proofs.lists.once.Goals as goal

pub returns-in-Block : goal.returns-in-Block
returns-in-Block c e n s =
    let t = c.args.s.now.token in
    let b = c.in-Block in
    once_block t b.first b.count (view_initialisers b.initialisers.items) (view_stmts b.items.items) (ap (view_stmt_form t) b.is ∙ block_view t b.first b.count b.initialisers b.items) (view_entry c.args.at) e n s

pub returns-in-If : goal.returns-in-If
returns-in-If c e n s =
    let t = c.args.s.now.token in
    let b = c.in-If in
    once_if t (view_arms b.field-0.items) (view_otherwise b.field-1) (ap (view_stmt_form t) b.is ∙ if_view t b.field-0 b.field-1) (view_entry c.args.at) e n s

pub returns-in-Label : goal.returns-in-Label
unfolding view_stmt_form
returns-in-Label c e n s =
    let t = c.args.s.now.token in
    let b = c.in-Label in
    let at = view_entry c.args.at in
    once_label t b.labels.items (view_stmt b.body.value) (ap (view_stmt_form t) b.is) at e n s
    ∙ ap (λ ls. meaning (view_stmt b.body.value) (behind_labels ls at) (calls e.world n) e s) (sym c.deref.ensures.value)
    ∙ ap (λ x. meaning (view_stmt b.body.value) x (calls e.world n) e s) (sym c.behind_labels.ensures)
    ∙ ap (λ x. meaning (view_stmt x) (view_entry c.behind_labels.result) (calls e.world n) e s) (sym c.deref-in-Label.ensures)
