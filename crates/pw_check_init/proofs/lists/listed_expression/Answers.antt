use Rattle.std.proofs.Common.{rules}
use Rattle.pw_check_state.specs.StateViews.{view_state}
use Rattle.pw_check_init_parts.specs.PlaceViews.{view_cursor}
use Rattle.pw_tree.specs.Views.{view_expr}
use Rattle.pw_check_walk.proofs.CallLaws.{step_ok, step_err}
use Rattle.pw_check_init_parts.specs.FilledViews.{view_context, view_filled}
use Rattle.pw_check_init.proofs.ListLemmas.{expression_listed}
use Rattle.pw_check_init_parts.proofs.WalkLemmas.{same_walk}
use Rattle.pw_check_init.proofs.lists.listed_expression.Goals as goal

pub returns-in_err-e : goal.returns-in_err-e
returns-in_err-e g c =
    same_walk (expression_listed (view_context c.args.cx.now) (view_cursor c.args.before.cursor.items) (view_filled c.args.before.filled) (view_expr c.args.expr.now) (view_state c.args.state.now))
    (step_err _ c.whole_rule.ensures c.in_err-e.was (search rules))

pub returns : goal.returns
returns g c =
    same_walk (expression_listed (view_context c.args.cx.now) (view_cursor c.args.before.cursor.items) (view_filled c.args.before.filled) (view_expr c.args.expr.now) (view_state c.args.state.now))
    (step_ok _ c.whole_rule.ensures c.in_ok-e.was (same_walk (cc c.first_token.ensures) c.listed_value.ensures))
