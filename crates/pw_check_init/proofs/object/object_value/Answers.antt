use Rattle.std.proofs.Common.{rules, refl}
use Rattle.pw_check_state.specs.StateViews.{view_state}
use Rattle.pw_tree.specs.Views.{view_expr}
use Rattle.pw_types.specs.Views.{view_qtype}
use Rattle.pw_check_walk.proofs.CallLaws.{step_ok, step_err}
use Rattle.pw_check_init_parts.specs.FilledViews.{view_context}
use Rattle.pw_check_init_parts.proofs.WalkLemmas.{same_walk, done_with}
use Rattle.pw_check_init.proofs.ObjectLemmas.{value_behind}
use Rattle.pw_check_init.proofs.object.object_value.Goals as goal

pub returns-in_err-e : goal.returns-in_err-e
returns-in_err-e g c = same_walk (value_behind (view_context c.args.cx.now) (view_qtype c.args.q) (view_expr c.args.expr.now) (view_state c.args.state.now)) (step_err _ c.whole_rule.ensures c.in_err-e.was (search rules))

pub returns-in_err-filled : goal.returns-in_err-filled
returns-in_err-filled g c =
    same_walk (value_behind (view_context c.args.cx.now) (view_qtype c.args.q) (view_expr c.args.expr.now) (view_state c.args.state.now)) (step_ok _ c.whole_rule.ensures c.in_ok-e.was (step_err _ (same_walk (cc (c.first_token.ensures, c.nothing-nothing.ensures)) c.value_filled.ensures) c.in_err-filled.was (search rules)))

pub returns : goal.returns
returns g c =
    same_walk (value_behind (view_context c.args.cx.now) (view_qtype c.args.q) (view_expr c.args.expr.now) (view_state c.args.state.now)) (step_ok _ c.whole_rule.ensures c.in_ok-e.was (step_ok _ (same_walk (cc (c.first_token.ensures, c.nothing-nothing.ensures)) c.value_filled.ensures) c.in_ok-filled.was (done_with refl refl refl)))
