use Rattle.std.proofs.Common.{rules, refl, ap, ◌∙◌}
use Rattle.pw_check_state.specs.StateViews.{view_state}
use Rattle.pw_tree.specs.Views.{view_init, view_word}
use Rattle.pw_types.specs.Views.{view_qtype}
use Rattle.pw_check_walk.proofs.CallLaws.{step_ok, step_err}
use Rattle.pw_check_init_parts.proofs.WalkLemmas.{same_walk, done_with}
use Rattle.pw_check_rules.specs.States.{put_hidden}
use Rattle.pw_check_objects.proofs.ObjectLemmas.{bytes_joined}
use Rattle.pw_check_objects.proofs.locals.bytes_rule.Goals as goal

pub returns-in_err-made : goal.returns-in_err-made
returns-in_err-made g c = same_walk (bytes_joined (view_word c.args.word.now) c.args.place (view_qtype c.args.q) (view_init c.args.init.now) (view_state c.args.state.now) c.in_ok-hidden.hidden (view_state c.bytes_begun.new.state) c.in_ok-hidden.ensures.number c.in_ok-hidden.ensures.state) (step_err _ c.object_completed.ensures c.in_err-made.was (search rules))

pub returns : goal.returns
returns g c =
    same_walk (bytes_joined (view_word c.args.word.now) c.args.place (view_qtype c.args.q) (view_init c.args.init.now) (view_state c.args.state.now) c.in_ok-hidden.hidden (view_state c.bytes_begun.new.state) c.in_ok-hidden.ensures.number c.in_ok-hidden.ensures.state) (step_ok _ c.object_completed.ensures c.in_ok-made.was (done_with refl (ap (λ x. (view_qtype c.in_ok-made.made.ty, x)) c.in_ok-initialisers.ensures) (c.put_hidden.ensures ∙ ap (λ h. put_hidden c.in_ok-hidden.hidden h (view_state c.object_completed.new.state)) c.in_ok-object.ensures)))
