use Rattle.std.proofs.Common.{rules, refl, ap}
use Rattle.pw_check_state.specs.PhraseViews.{view_specified}
use Rattle.pw_check_state.specs.StateViews.{view_state}
use Rattle.pw_tree.specs.Views.{view_word}
use Rattle.pw_typed.specs.Views.{view_initialisers}
use Rattle.pw_types.specs.Views.{view_qtype}
use Rattle.pw_check_walk.proofs.CallLaws.{step_ok, step_err}
use Rattle.pw_check_init_parts.proofs.WalkLemmas.{same_walk, done_with}
use Rattle.pw_check_objects.proofs.ObjectLemmas.{global_either, global_none, global_some}
use Rattle.pw_check_objects.proofs.globals.global_rule.Goals as goal

pub returns-in_err-place : goal.returns-in_err-place
returns-in_err-place g c spot =
    same_walk (global_either (view_word c.args.word.now) (view_specified c.args.specified.now) spot (view_qtype c.args.q) c.args.initializer.now (view_state c.args.state.now))
    (step_err _ (same_walk (cc (c.asking_of-asking.ensures, c.in_ok-ty.ensures)) c.declare_linked.ensures) c.in_err-place.was (search rules))

pub returns-in-Some : goal.returns-in-Some
returns-in-Some g c spot =
    same_walk (global_some (view_word c.args.word.now) (view_specified c.args.specified.now) spot (view_qtype c.args.q) c.args.initializer.now (view_state c.args.state.now) c.in-Some.i c.in-Some.is)
    (step_ok _ (same_walk (cc (c.asking_of-asking.ensures, c.in_ok-ty.ensures)) c.declare_linked.ensures) c.in_ok-place.was c.global_rest.ensures)

pub returns-in_ok-tentative-in-None : goal.returns-in_ok-tentative-in-None
returns-in_ok-tentative-in-None g c spot =
    same_walk (global_none (view_word c.args.word.now) (view_specified c.args.specified.now) spot (view_qtype c.args.q) c.args.initializer.now (view_state c.args.state.now) c.in-None.is)
    (step_ok _ (same_walk (cc (c.asking_of-asking.ensures, c.in_ok-ty.ensures)) c.declare_linked.ensures) c.in_ok-place.was (done_with refl (ap view_initialisers c.new.ensures.items) c.in_ok-tentative-in-None.ensures))
