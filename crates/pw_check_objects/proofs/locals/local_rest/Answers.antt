use Rattle.std.proofs.Common.{rules, refl}
use Rattle.pw_check_state.specs.PhraseViews.{view_specified}
use Rattle.pw_check_state.specs.StateViews.{view_state}
use Rattle.pw_tree.specs.Views.{view_init, view_word}
use Rattle.pw_types.specs.Views.{view_qtype}
use Rattle.pw_check_walk.proofs.CallLaws.{step_ok, step_err}
use Rattle.pw_check_init_parts.proofs.WalkLemmas.{same_walk, done_with}
use Rattle.pw_check_objects.proofs.ObjectLemmas.{local_joined}
use Rattle.pw_check_objects.proofs.locals.local_rest.Goals as goal

pub returns-in_err-made : goal.returns-in_err-made
returns-in_err-made g c = same_walk (local_joined (view_word c.args.word.now) (view_specified c.args.specified.now) c.args.local (view_qtype c.args.q) (view_init c.args.init.now) (view_state c.args.state.now)) (step_err _ c.local_initialiser.ensures c.in_err-made.was (search rules))

pub returns : goal.returns
returns g c =
    same_walk (local_joined (view_word c.args.word.now) (view_specified c.args.specified.now) c.args.local (view_qtype c.args.q) (view_init c.args.init.now) (view_state c.args.state.now)) (step_ok _ c.local_initialiser.ensures c.in_ok-made.was (done_with refl refl (cc (c.in_ok-local_filled.ensures, c.place_here-place.ensures, c.deref.ensures.value))))
