use Rattle.std.proofs.Common.{◌∙◌, [], ◌∷◌, ap}
use Rattle.pw_check_state.specs.PhraseViews.{view_spot}
use Rattle.pw_check_state.specs.StateViews.{view_state}
use Rattle.pw_types.specs.Views.{view_qtype}
use Rattle.pw_check_rules.specs.States.{records_in}
use Rattle.pw_check_walk.specs.Found.{found, found_behind}
use Rattle.pw_check_rules.specs.Declarations.{object_point}
use Rattle.pw_check_rules.specs.Linkage.{fresh_name}
use Rattle.pw_check_decl_names.proofs.PointLemmas.{both_found}
use Rattle.pw_check_decl_names.proofs.points.object_asked.Goals as goal

pub returns : goal.returns
returns c b =
    both_found (fresh_name (view_state c.args.state.now) c.args.word.now.text.items c.args.word.now.token ∷ []) (object_point (records_in (view_state c.args.state.now)) (view_spot c.args.spot.now) c.args.initialised (view_qtype c.args.q.now))
    c.fresh_name-fresh.result.least c.and.result.least c.object_point.result.least
    (c.fresh_name-fresh.ensures
    ∙ ap (λ o. found_behind o (fresh_name (view_state c.args.state.now) c.deref.result.now c.args.word.now.token ∷ [])) c.none.ensures
    ∙ ap (λ n. found (fresh_name (view_state c.args.state.now) n c.args.word.now.token ∷ [])) c.deref.ensures.value)
    (c.object_point.ensures ∙ ap (λ rs. found (object_point rs (view_spot c.args.spot.now) c.args.initialised (view_qtype c.args.q.now))) c.records.ensures)
    c.and.ensures
