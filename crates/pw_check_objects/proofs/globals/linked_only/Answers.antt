use Rattle.std.proofs.Common.{rules, refl, ap}
use Rattle.pw_check_state.specs.PhraseViews.{view_specified}
use Rattle.pw_check_state.specs.StateViews.{view_state}
use Rattle.pw_tree.specs.Views.{view_word}
use Rattle.pw_typed.specs.Views.{view_initialisers}
use Rattle.pw_types.specs.Views.{view_qtype}
use Rattle.pw_check_walk.proofs.CallLaws.{step_ok, step_err}
use Rattle.pw_check_init_parts.proofs.WalkLemmas.{same_walk, done_with}
use Rattle.pw_check_linkage.specs.Views.{view_asking}
use Rattle.pw_check_objects.proofs.ObjectLemmas.{only_linked}
use Rattle.pw_check_objects.proofs.globals.linked_only.Goals as goal

pub returns-in_err-_place : goal.returns-in_err-_place
returns-in_err-_place c =
    same_walk (only_linked (view_word c.args.word.now) (view_specified c.args.specified.now) (view_asking c.args.asking) (view_qtype c.args.q) (view_state c.args.state.now))
    (step_err _ c.declare_linked.ensures c.in_err-_place.was (search rules))

pub returns : goal.returns
returns c =
    same_walk (only_linked (view_word c.args.word.now) (view_specified c.args.specified.now) (view_asking c.args.asking) (view_qtype c.args.q) (view_state c.args.state.now))
    (step_ok _ c.declare_linked.ensures c.in_ok-_place.was (done_with refl (ap view_initialisers c.new.ensures.items) refl))
