use Rattle.std.proofs.Common.{refl, ap, ◌∙◌}
use Rattle.pw_check_state.specs.StateViews.{view_state}
use Rattle.pw_check_labels.proofs.Steps.{ends, same}
use Rattle.pw_check_rules.specs.Statements.{stmt_rule}
use Rattle.pw_tree.specs.Views.{view_stmt}
use Rattle.pw_typed.specs.Views.{view_stmt_form}
use Rattle.pw_check_stmt.proofs.stmt.stmt_of.Goals as goal

pub returns-in-Block : goal.returns-in-Block
returns-in-Block g c =
    same
    (ap (λ x. stmt_rule x (view_state c.args.state.now)) (ap view_stmt c.in-Block.is ∙ c.statements_show_their_lists.ensures.compound c.in-Block.block))
    c.scoped_block.ensures

pub returns-in-Empty : goal.returns-in-Empty
unfolding stmt_rule view_stmt view_stmt_form
returns-in-Empty g c = same (ap (λ x. stmt_rule (view_stmt x) (view_state c.args.state.now)) c.in-Empty.is) (ends refl refl)

pub returns-in-If : goal.returns-in-If
returns-in-If g c =
    let i = c.in-If in
    same
    (ap (λ x. stmt_rule x (view_state c.args.state.now)) (ap view_stmt i.is ∙ c.statements_show_their_lists.ensures.ifs i.token i.condition i.chosen i.else_ifs i.otherwise))
    (rw (c.deref-in-If.ensures, c.deref-in-If-2.ensures.value) at c.if_stmt.ensures)

pub returns-in-Goto : goal.returns-in-Goto
unfolding stmt_rule view_stmt
returns-in-Goto g c = same (ap (λ x. stmt_rule (view_stmt x) (view_state c.args.state.now)) c.in-Goto.is) c.goto_rule.ensures.follows

pub returns-in-Continue : goal.returns-in-Continue
unfolding stmt_rule view_stmt
returns-in-Continue g c = same (ap (λ x. stmt_rule (view_stmt x) (view_state c.args.state.now)) c.in-Continue.is) c.continue_rule.ensures.follows

pub returns-in-Break : goal.returns-in-Break
unfolding stmt_rule view_stmt
returns-in-Break g c = same (ap (λ x. stmt_rule (view_stmt x) (view_state c.args.state.now)) c.in-Break.is) c.break_rule.ensures.follows

pub returns-in-Return : goal.returns-in-Return
unfolding stmt_rule view_stmt
returns-in-Return g c = same (ap (λ x. stmt_rule (view_stmt x) (view_state c.args.state.now)) c.in-Return.is) c.return_rule.ensures
