use Rattle.std.proofs.Common.{ap, sym, ◌∙◌}
use Rattle.pw_types.specs.TypedTrees.{Switch}
use Rattle.pw_typed.specs.Views.{view_cases, view_expr, view_initialisers, view_stmt, view_stmt_form, view_stmts}
use Rattle.pw_typed.proofs.Rows.{block_view, if_view}
use Rattle.pw_interp_todo.specs.Flows.{view_entry}
use Rattle.pw_interp_flows.proofs.Forming.{block_is, break_is, continue_is, do_is, empty_is, evaluate_is, for_is, goto_is, if_is, label_is, return_is, while_is}
use Rattle.pw_interp_flows.proofs.forms.statement.Goals as goal

pub returns-in-Empty : goal.returns-in-Empty
unfolding view_stmt_form
returns-in-Empty c e n s =
    let t = c.args.s.now.token in
    let at = view_entry c.args.at in
    empty_is at e n s t (ap (view_stmt_form t) c.in-Empty.is)

pub returns-in-Expr : goal.returns-in-Expr
unfolding view_stmt_form
returns-in-Expr c e n s =
    let t = c.args.s.now.token in
    let at = view_entry c.args.at in
    evaluate_is at e n s t _ (ap (view_stmt_form t) c.in-Expr.is)

pub returns-in-Block : goal.returns-in-Block
unfolding view_stmt_form
returns-in-Block c e n s =
    let t = c.args.s.now.token in
    let at = view_entry c.args.at in
    let b = c.in-Block in block_is at e n s t b.first b.count (view_initialisers b.initialisers.items) (view_stmts b.items.items) (ap (view_stmt_form t) b.is ∙ block_view t b.first b.count b.initialisers b.items)

pub returns-in-If : goal.returns-in-If
unfolding view_stmt_form
returns-in-If c e n s =
    let t = c.args.s.now.token in
    let at = view_entry c.args.at in
    let b = c.in-If in if_is at e n s t _ _ (ap (view_stmt_form t) b.is ∙ if_view t b.field-0 b.field-1)

pub returns-in-Label : goal.returns-in-Label
unfolding view_stmt_form
returns-in-Label c e n s =
    let t = c.args.s.now.token in
    let at = view_entry c.args.at in
    label_is at e n s t _ _ (ap (view_stmt_form t) c.in-Label.is)

pub returns-in-While : goal.returns-in-While
unfolding view_stmt_form
returns-in-While c e n s =
    let t = c.args.s.now.token in
    let at = view_entry c.args.at in
    while_is at e n s t _ _ (ap (view_stmt_form t) c.in-While.is) ∙ c.met.ensures e n s

pub returns-in-Do : goal.returns-in-Do
unfolding view_stmt_form
returns-in-Do c e n s =
    let t = c.args.s.now.token in
    let at = view_entry c.args.at in
    do_is at e n s t _ _ (ap (view_stmt_form t) c.in-Do.is) ∙ c.met-in-Do.ensures e n s

pub returns-in-For : goal.returns-in-For
unfolding view_stmt_form
returns-in-For c e n s =
    let t = c.args.s.now.token in
    let at = view_entry c.args.at in
    for_is e n s t _ _ _ _ at (ap (view_stmt_form t) c.in-For.is) ∙ c.counted.ensures e n s

pub returns-in-Switch : goal.returns-in-Switch
unfolding view_stmt_form
returns-in-Switch c e n s =
    let t = c.args.s.now.token in
    let b = c.in-Switch in
    c.switch.ensures t (view_cases b.field-1.items) b.field-2
    (ap (view_stmt_form t) b.is ∙ ap (λ x. Switch t (view_expr b.e) (view_cases b.field-1.items) b.field-2 (view_stmt x)) (sym c.deref.ensures)) e n s

pub returns-in-Goto : goal.returns-in-Goto
unfolding view_stmt_form
returns-in-Goto c e n s =
    let t = c.args.s.now.token in
    let at = view_entry c.args.at in
    goto_is at e n s t _ (ap (view_stmt_form t) c.in-Goto.is)

pub returns-in-Break : goal.returns-in-Break
unfolding view_stmt_form
returns-in-Break c e n s =
    let t = c.args.s.now.token in
    let at = view_entry c.args.at in
    break_is at e n s t (ap (view_stmt_form t) c.in-Break.is)

pub returns-in-Continue : goal.returns-in-Continue
unfolding view_stmt_form
returns-in-Continue c e n s =
    let t = c.args.s.now.token in
    let at = view_entry c.args.at in
    continue_is at e n s t (ap (view_stmt_form t) c.in-Continue.is)

pub returns-in-Return : goal.returns-in-Return
unfolding view_stmt_form
returns-in-Return c e n s =
    let t = c.args.s.now.token in
    let at = view_entry c.args.at in
    return_is at e n s t _ (ap (view_stmt_form t) c.in-Return.is) ∙ c.returning.ensures e n s
