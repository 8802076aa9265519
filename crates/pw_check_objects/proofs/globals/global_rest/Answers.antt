use Rattle.std.proofs.Common.{rules, refl, ap}
use Rattle.pw_check_state.specs.StateViews.{view_state}
use Rattle.pw_tree.specs.Views.{view_init, view_word}
use Rattle.pw_typed.specs.Views.{view_initialisers}
use Rattle.pw_types.specs.Views.{view_qtype}
use Rattle.pw_check_walk.proofs.CallLaws.{step_ok, step_err}
use Rattle.pw_check_init_parts.proofs.WalkLemmas.{same_walk, done_with}
use Rattle.pw_check_objects.proofs.ObjectLemmas.{global_joined}
use Rattle.pw_check_objects.proofs.globals.global_rest.Goals as goal

pub returns-in_err-made : goal.returns-in_err-made
returns-in_err-made g c = same_walk (global_joined (view_word c.args.word.now) c.args.place (view_qtype c.args.q) (view_init c.args.init.now) (view_state c.args.state.now) (view_state c.define_object.new.state) c.in_ok-define_object.ensures) (step_err _ (same_walk (cc (c.in_ok-ty.ensures)) c.object_fitted.ensures) c.in_err-made.was (search rules))

pub returns : goal.returns
returns g c =
    same_walk (global_joined (view_word c.args.word.now) c.args.place (view_qtype c.args.q) (view_init c.args.init.now) (view_state c.args.state.now) (view_state c.define_object.new.state) c.in_ok-define_object.ensures) (step_ok _ (same_walk (cc (c.in_ok-ty.ensures)) c.object_fitted.ensures) c.in_ok-made.was (done_with refl (ap view_initialisers c.new.ensures.items) c.in_ok-global_filled.ensures))
