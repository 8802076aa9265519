use Rattle.std.proofs.Common.{◌≡◌, ◌∙◌, ap, sym}
use Rattle.pw_check_state.specs.PhraseViews.{view_specified, view_spot}
use Rattle.pw_check_state.specs.StateViews.{view_state}
use Rattle.pw_tree.specs.Views.{view_word}
use Rattle.pw_types.specs.Views.{view_qtype}
use Rattle.pw_check_walk.specs.Found.{found}
use mathlib.Core.Logic.{inl, inr}
use Rattle.pw_check_rules.specs.Declarations.{ALocal, sort_point}
use Rattle.pw_check_decl_names.specs.Views.{view_sort}
use Rattle.pw_check_decl_names.proofs.points.sort_point.Goals as goal

pub returns-in-AFunction : goal.returns-in-AFunction
returns-in-AFunction c = c.function_asked.ensures (view_spot c.args.spot.now) ∙ ap (λ k. found (sort_point (view_state c.args.state.now) (view_sort k) (view_spot c.args.spot.now) (view_word c.args.word.now) c.args.initialised (view_specified c.args.specified.now) (view_qtype c.args.q.now))) (sym c.in-AFunction.is)

pub returns-in-AnExtern : goal.returns-in-AnExtern
returns-in-AnExtern c = c.extern_asked.ensures (view_spot c.args.spot.now) (view_specified c.args.specified.now) ∙ ap (λ k. found (sort_point (view_state c.args.state.now) (view_sort k) (view_spot c.args.spot.now) (view_word c.args.word.now) c.args.initialised (view_specified c.args.specified.now) (view_qtype c.args.q.now))) (sym c.in-AnExtern.is)

pub returns-in-AStatic : goal.returns-in-AStatic
returns-in-AStatic c =
    let same : found (sort_point (view_state c.args.state.now) ALocal (view_spot c.args.spot.now) (view_word c.args.word.now) c.args.initialised (view_specified c.args.specified.now) (view_qtype c.args.q.now)) ≡ found (sort_point (view_state c.args.state.now) (view_sort c.args.sort) (view_spot c.args.spot.now) (view_word c.args.word.now) c.args.initialised (view_specified c.args.specified.now) (view_qtype c.args.q.now)) =
    elim c.in-AStatic.is [
      | inl e ↦ ap (λ k. found (sort_point (view_state c.args.state.now) (view_sort k) (view_spot c.args.spot.now) (view_word c.args.word.now) c.args.initialised (view_specified c.args.specified.now) (view_qtype c.args.q.now))) (sym e)
      | inr e ↦ ap (λ k. found (sort_point (view_state c.args.state.now) (view_sort k) (view_spot c.args.spot.now) (view_word c.args.word.now) c.args.initialised (view_specified c.args.specified.now) (view_qtype c.args.q.now))) (sym e)
    ] in
    c.object_asked.ensures (view_specified c.args.specified.now) ∙ same
