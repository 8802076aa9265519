use Rattle.std.proofs.Common.{refl, ap}
use Rattle.pw_check_state.specs.StateViews.{view_state}
use Rattle.pw_tree.specs.Views.{view_word}
use Rattle.pw_typed.specs.Views.{view_initialisers}
use Rattle.pw_types.specs.Views.{view_qtype}
use Rattle.pw_check_init_parts.proofs.WalkLemmas.{same_walk, done_with}
use Rattle.pw_check_objects.proofs.ObjectLemmas.{static_none, static_some}
use Rattle.pw_check_objects.proofs.statics.static_rule.Goals as goal

pub returns-in-Some : goal.returns-in-Some
returns-in-Some g c = same_walk (static_some (view_word c.args.word.now) (view_qtype c.args.q) c.args.initializer.now (view_state c.args.state.now) c.in_ok-number.number (view_state c.static_begun.new.state) c.in-Some.i c.in-Some.is c.in_ok-number.ensures.number c.in_ok-number.ensures.state) c.static_rest.ensures

pub returns-in-None : goal.returns-in-None
returns-in-None g c = same_walk (static_none (view_word c.args.word.now) (view_qtype c.args.q) c.args.initializer.now (view_state c.args.state.now) c.in_ok-number.number (view_state c.static_begun.new.state) c.in-None.is c.in_ok-number.ensures.number c.in_ok-number.ensures.state) (done_with refl (ap view_initialisers c.new.ensures.items) refl)
