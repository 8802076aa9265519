use Rattle.std.proofs.Common.{rules, refl, sym}
use Rattle.pw_check_state.specs.StateViews.{view_state}
use Rattle.pw_check_state.specs.Views.{view_node}
use Rattle.pw_check_init_parts.specs.PlaceViews.{view_cursor}
use Rattle.pw_typed.specs.Views.{view_expr}
use Rattle.pw_check_walk.proofs.CallLaws.{step_ok, step_err}
use Rattle.pw_check_init_parts.specs.FilledViews.{view_context, view_filled}
use Rattle.pw_check_init_parts.proofs.WalkLemmas.{same_walk, done_with}
use Rattle.pw_types.specs.WellTyped.{type_in}
use Rattle.pw_check_rules.specs.Operators.{same_record}
use Rattle.pw_check_init.specs.Placing.{reached_rule}
use Rattle.pw_check_init.proofs.ListLemmas.{value_placed}
use Rattle.pw_check_init.proofs.lists.listed_value.Goals as goal

pub returns-in_err-reached : goal.returns-in_err-reached
returns-in_err-reached c =
    same_walk (value_placed (view_context c.args.cx.now) (view_cursor c.args.before.cursor.items) (view_filled c.args.before.filled) c.args.first (view_node c.args.e) (view_state c.args.state.now))
    (step_err _ (same_walk (λ j. reached_rule (view_context c.args.cx.now) (λ ty. same_record ty (type_in (view_expr (sym c.deref.ensures j)))) (view_cursor (sym c.deref-2.ensures.value j)) (view_state c.args.state.now)) c.reached_part.ensures) c.in_err-reached.was (search rules))

pub returns-in_err-filled : goal.returns-in_err-filled
returns-in_err-filled c =
    same_walk (value_placed (view_context c.args.cx.now) (view_cursor c.args.before.cursor.items) (view_filled c.args.before.filled) c.args.first (view_node c.args.e) (view_state c.args.state.now))
    (step_ok _ (same_walk (λ j. reached_rule (view_context c.args.cx.now) (λ ty. same_record ty (type_in (view_expr (sym c.deref.ensures j)))) (view_cursor (sym c.deref-2.ensures.value j)) (view_state c.args.state.now)) c.reached_part.ensures) c.in_ok-reached.was
    (step_err _ c.value_filled.ensures c.in_err-filled.was (search rules)))

pub returns : goal.returns
returns c =
    same_walk (value_placed (view_context c.args.cx.now) (view_cursor c.args.before.cursor.items) (view_filled c.args.before.filled) c.args.first (view_node c.args.e) (view_state c.args.state.now))
    (step_ok _ (same_walk (λ j. reached_rule (view_context c.args.cx.now) (λ ty. same_record ty (type_in (view_expr (sym c.deref.ensures j)))) (view_cursor (sym c.deref-2.ensures.value j)) (view_state c.args.state.now)) c.reached_part.ensures) c.in_ok-reached.was
    (step_ok _ c.value_filled.ensures c.in_ok-filled.was (done_with refl (cc (c.in_ok-cursor.ensures, c.records.ensures, c.deref-2.ensures.value)) refl)))
