use Rattle.std.proofs.Common.{rules, refl}
use Rattle.pw_check_state.specs.StateViews.{view_state}
use Rattle.pw_tree.specs.Views.{view_init, view_word}
use Rattle.pw_types.specs.Views.{view_qtype}
use Rattle.pw_check_walk.proofs.CallLaws.{step_ok, step_err}
use Rattle.pw_check_init_parts.specs.FilledViews.{view_context}
use Rattle.pw_check_init_parts.proofs.WalkLemmas.{same_walk, done_with}
use Rattle.pw_check_objects.proofs.ObjectLemmas.{object_joined}
use Rattle.pw_check_objects.proofs.statics.object_completed.Goals as goal

pub returns-in_err-made : goal.returns-in_err-made
returns-in_err-made g c = same_walk (object_joined (view_word c.args.word.now) (view_context c.args.cx.now) (view_qtype c.args.q) (view_init c.args.init.now) (view_state c.args.state.now)) (step_err _ c.object_rule.ensures c.in_err-made.was (search rules))

pub returns-in_err-completed_rule : goal.returns-in_err-completed_rule
returns-in_err-completed_rule g c =
    same_walk (object_joined (view_word c.args.word.now) (view_context c.args.cx.now) (view_qtype c.args.q) (view_init c.args.init.now) (view_state c.args.state.now)) (step_ok _ c.object_rule.ensures c.in_ok-made.was (step_err _ c.completed_rule.ensures c.in_err-completed_rule.was (search rules)))

pub returns : goal.returns
returns g c =
    same_walk (object_joined (view_word c.args.word.now) (view_context c.args.cx.now) (view_qtype c.args.q) (view_init c.args.init.now) (view_state c.args.state.now)) (step_ok _ c.object_rule.ensures c.in_ok-made.was (step_ok _ c.completed_rule.ensures c.in_ok-completed_rule.was (done_with refl refl refl)))
