use Rattle.std.proofs.Common.{◌∙◌, ap, sym, refl}
use Rattle.pw_check_state.specs.PhraseViews.{view_spot}
use Rattle.pw_types.specs.Views.{view_qtype}
use Rattle.pw_check_walk.specs.Causes.{CompleteObject, InitialisedKind}
use Rattle.pw_check_walk.specs.Found.{found}
use Rattle.pw_check_decl_names.proofs.PointLemmas.{closed_object, plain_object}
use Rattle.pw_check_decl_names.proofs.points.object_point.Goals.{else-initialised-via-then-initialised+else-is_open_array, else-initialised-via-else-initialised}
use Rattle.pw_check_decl_names.proofs.points.object_point.Goals as goal

pub returns-else-initialised : goal.returns-else-initialised
returns-else-initialised c =
    elim c.else-initialised.branch [
      | else-initialised-via-then-initialised+else-is_open_array w ↦
          c.completed.ensures InitialisedKind refl
          ∙ ap found (sym (closed_object c.args.types.now (view_spot c.args.spot.now) c.args.initialised (view_qtype c.args.q.now) w.if-initialised.true (sym w.is_open_array.ensures ∙ w.if-is_open_array.false)))
      | else-initialised-via-else-initialised w ↦
          c.completed.ensures CompleteObject refl
          ∙ ap found (sym (plain_object c.args.types.now (view_spot c.args.spot.now) c.args.initialised (view_qtype c.args.q.now) w.if-initialised.false))
    ]
