use Rattle.std.proofs.Common.{rules, refl, sym, ap}
use Rattle.pw_check_state.specs.StateViews.{view_state}
use Rattle.pw_check_init_parts.specs.PlaceViews.{view_cursor}
use Rattle.pw_tree.specs.Views.{view_words}
use Rattle.pw_check_walk.proofs.CallLaws.{step_ok, step_err}
use Rattle.pw_check_init_parts.specs.FilledViews.{view_context, view_filled}
use Rattle.pw_check_init_parts.proofs.WalkLemmas.{same_walk, done_with}
use Rattle.pw_check_rules.specs.Kinds.{is_character_array}
use Rattle.pw_check_init.specs.Placing.{reached_rule}
use Rattle.pw_check_init.proofs.ListLemmas.{string_placed}
use Rattle.pw_check_init.proofs.lists.listed_string.Goals as goal

pub returns-in_err-reached : goal.returns-in_err-reached
returns-in_err-reached c =
    same_walk (string_placed (view_context c.args.cx.now) (view_cursor c.args.before.cursor.items) (view_filled c.args.before.filled) (view_words c.args.words.now) (view_state c.args.state.now))
    (step_err _ (same_walk (ap (λ k. reached_rule (view_context c.args.cx.now) (λ ty. is_character_array ty) (view_cursor k) (view_state c.args.state.now)) (sym c.deref.ensures.value)) c.reached_part.ensures) c.in_err-reached.was (search rules))

pub returns-in_err-filled : goal.returns-in_err-filled
returns-in_err-filled c =
    same_walk (string_placed (view_context c.args.cx.now) (view_cursor c.args.before.cursor.items) (view_filled c.args.before.filled) (view_words c.args.words.now) (view_state c.args.state.now))
    (step_ok _ (same_walk (ap (λ k. reached_rule (view_context c.args.cx.now) (λ ty. is_character_array ty) (view_cursor k) (view_state c.args.state.now)) (sym c.deref.ensures.value)) c.reached_part.ensures) c.in_ok-reached.was
    (step_err _ c.string_filled.ensures c.in_err-filled.was (search rules)))

pub returns : goal.returns
returns c =
    same_walk (string_placed (view_context c.args.cx.now) (view_cursor c.args.before.cursor.items) (view_filled c.args.before.filled) (view_words c.args.words.now) (view_state c.args.state.now))
    (step_ok _ (same_walk (ap (λ k. reached_rule (view_context c.args.cx.now) (λ ty. is_character_array ty) (view_cursor k) (view_state c.args.state.now)) (sym c.deref.ensures.value)) c.reached_part.ensures) c.in_ok-reached.was
    (step_ok _ c.string_filled.ensures c.in_ok-filled.was (done_with refl (cc (c.in_ok-cursor.ensures, c.records.ensures, c.deref.ensures.value)) refl)))
