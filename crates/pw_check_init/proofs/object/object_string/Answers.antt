use Rattle.std.proofs.Common.{rules, refl, sym, ap, arith}
use Rattle.std.proofs.lemmas.Grind.{common_steps}
use Rattle.pw_check_state.specs.StateViews.{view_state}
use Rattle.pw_tree.specs.Views.{view_words}
use Rattle.pw_types.specs.Views.{view_qtype}
use Rattle.pw_check_walk.proofs.CallLaws.{step_ok, step_err}
use Rattle.pw_check_init_parts.specs.FilledViews.{view_context}
use Rattle.pw_check_init_parts.proofs.WalkLemmas.{same_walk, done_with}
use Rattle.pw_check_rules.specs.Initialisers.{target_at}
use Rattle.pw_check_init_parts.specs.Strings.{bytes_filled}
use Rattle.pw_check_init_parts.proofs.StringLemmas.{object_behind}
use Rattle.pw_check_init.proofs.object.object_string.Goals as goal

pub returns-in_err-bytes : goal.returns-in_err-bytes
returns-in_err-bytes c = same_walk (object_behind (view_context c.args.cx.now) (view_qtype c.args.q) (view_words c.args.words.now) (view_state c.args.state.now)) (step_err _ c.string_bytes.ensures c.in_err-bytes.was (search rules))

pub returns-in_err-filled : goal.returns-in_err-filled
returns-in_err-filled c =
    same_walk (object_behind (view_context c.args.cx.now) (view_qtype c.args.q) (view_words c.args.words.now) (view_state c.args.state.now))
    (step_ok _ c.string_bytes.ensures c.in_ok-bytes.was (step_err _ (same_walk (ap (λ f. bytes_filled (view_context c.args.cx.now) (view_words c.args.words.now) c.in_ok-bytes.bytes.items (target_at (view_qtype c.args.q) 0) f (view_state c.args.state.now)) (sym c.nothing-nothing.ensures)) c.bytes_filled.ensures) c.in_err-filled.was (search rules)))

pub returns : goal.returns
returns c =
    same_walk (object_behind (view_context c.args.cx.now) (view_qtype c.args.q) (view_words c.args.words.now) (view_state c.args.state.now))
    (step_ok _ c.string_bytes.ensures c.in_ok-bytes.was (step_ok _ (same_walk (ap (λ f. bytes_filled (view_context c.args.cx.now) (view_words c.args.words.now) c.in_ok-bytes.bytes.items (target_at (view_qtype c.args.q) 0) f (view_state c.args.state.now)) (sym c.nothing-nothing.ensures)) c.bytes_filled.ensures) c.in_ok-filled.was (done_with refl (grind (arith, common_steps)) refl)))
