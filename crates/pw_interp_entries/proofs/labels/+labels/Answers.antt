use Rattle.std.proofs.Common.{sym, ap, ◌∙◌}
use Rattle.std.proofs.lemmas.List.{at_drop_all}
use Rattle.pw_types.specs.Labels.{labels_in, labels_among, labels_of_arms, labels_behind}
use Rattle.pw_typed.specs.Views.{view_arms, view_otherwise, view_stmt, view_stmt_form, view_stmts}
use Rattle.pw_typed.proofs.Rows.{block_view, if_view}
use Rattle.pw_cmean.specs.Execution.{holds}
use Rattle.pw_interp_entries.proofs.LabelLemmas.{among_at, arms_at, found, holds_append, passed}
use Rattle.pw_interp_entries.proofs.labels.+labels.Goals as goal

pub has_label-returns-in-Block : goal.has_label-returns-in-Block
has_label-returns-in-Block t c =
    let k = c.args.statement.now.token in
    let b = c.in-Block in
    c.is_among.ensures
    ∙ ap (λ ss. holds (labels_among (view_stmts ss)) c.args.label) c.deref.ensures.value
    ∙ sym (ap (λ f. holds (labels_in (view_stmt_form k f)) c.args.label) b.is ∙ ap (λ s. holds (labels_in s) c.args.label) (block_view k b.first b.count b.initialisers b.items))

pub is_among-returns-then-has_label : goal.is_among-returns-then-has_label
is_among-returns-then-has_label t c =
    let i = c.loop-statement.statement-index in
    let s = c.statement-item.result in
    let at = among_at c.args.label c.args.statements.now i s c.loop-statement-test.true c.statement-item.is in
    sym (c.loop-statement.invariant ∙ at ∙ found (holds (labels_in (view_stmt s)) c.args.label) _ (sym c.has_label.ensures ∙ c.if-has_label.true))

pub is_among-loop-statement-preserved : goal.is_among-loop-statement-preserved
is_among-loop-statement-preserved t c =
    let i = c.loop-statement.statement-index in
    let s = c.statement-item.result in
    let at = among_at c.args.label c.args.statements.now i s c.loop-statement-test.true c.statement-item.is in
    c.loop-statement.invariant ∙ at ∙ passed (holds (labels_in (view_stmt s)) c.args.label) _ (sym c.has_label.ensures ∙ c.if-has_label.false)

pub is_among-returns : goal.is_among-returns
is_among-returns t c =
    sym (c.loop-statement.invariant ∙ at_drop_all (λ ss. holds (labels_among (view_stmts ss)) c.args.label) c.args.statements.now c.loop-statement.statement-index c.loop-statement-test.false)

pub is_in_arms-returns-then-has_label : goal.is_in_arms-returns-then-has_label
is_in_arms-returns-then-has_label t c =
    let i = c.loop-arm.arm-index in
    let a = c.arm-item.result in
    let at = arms_at c.args.label c.args.arms.now i a c.loop-arm-test.true c.arm-item.is in
    sym (c.loop-arm.invariant ∙ at ∙ found (holds (labels_in (view_stmt a.body)) c.args.label) _ (sym c.has_label.ensures ∙ c.if-has_label.true))

pub is_in_arms-loop-arm-preserved : goal.is_in_arms-loop-arm-preserved
is_in_arms-loop-arm-preserved t c =
    let i = c.loop-arm.arm-index in
    let a = c.arm-item.result in
    let at = arms_at c.args.label c.args.arms.now i a c.loop-arm-test.true c.arm-item.is in
    c.loop-arm.invariant ∙ at ∙ passed (holds (labels_in (view_stmt a.body)) c.args.label) _ (sym c.has_label.ensures ∙ c.if-has_label.false)

pub has_label-returns-then-is_in_arms : goal.has_label-returns-then-is_in_arms
has_label-returns-then-is_in_arms t c =
    let k = c.args.statement.now.token in
    let l = c.args.label in
    let arms = c.in-If.arms in
    let o = c.in-If.otherwise in
    let whole =
    ap (λ f. holds (labels_in (view_stmt_form k f)) l) c.in-If.is
    ∙ ap (λ s. holds (labels_in s) l) (if_view k arms o)
    ∙ holds_append (labels_of_arms (view_arms arms.items)) (labels_behind (view_otherwise o)) l in
    let seen = c.is_in_arms.ensures ∙ ap (λ ss. holds (labels_of_arms (view_arms ss)) l) c.deref-in-If.ensures.value in
    c.if-is_in_arms.true ∙ sym (whole ∙ found (holds (labels_of_arms (view_arms arms.items)) l) (holds (labels_behind (view_otherwise o)) l) (sym seen ∙ c.if-is_in_arms.true))

pub has_label-returns-else-is_in_arms : goal.has_label-returns-else-is_in_arms
has_label-returns-else-is_in_arms t c =
    let k = c.args.statement.now.token in
    let l = c.args.label in
    let arms = c.in-If.arms in
    let o = c.in-If.otherwise in
    let whole =
    ap (λ f. holds (labels_in (view_stmt_form k f)) l) c.in-If.is
    ∙ ap (λ s. holds (labels_in s) l) (if_view k arms o)
    ∙ holds_append (labels_of_arms (view_arms arms.items)) (labels_behind (view_otherwise o)) l in
    let seen = c.is_in_arms.ensures ∙ ap (λ ss. holds (labels_of_arms (view_arms ss)) l) c.deref-in-If.ensures.value in
    c.is_behind.ensures ∙ sym (whole ∙ passed (holds (labels_of_arms (view_arms arms.items)) l) (holds (labels_behind (view_otherwise o)) l) (sym seen ∙ c.if-is_in_arms.false))
