use Rattle.std.proofs.Common.{◌∙◌, ap}
use Rattle.pw_check_state.specs.PhraseViews.{view_specified, view_spot}
use Rattle.pw_check_state.specs.StateViews.{view_state}
use Rattle.pw_tree.specs.Views.{view_word}
use Rattle.pw_types.specs.Views.{view_qtype}
use Rattle.pw_check_rules.specs.States.{records_in}
use Rattle.pw_check_walk.specs.Found.{found}
use Rattle.pw_check_rules.specs.Declarations.{AGlobal, asking_of, definition_point, global_point}
use Rattle.pw_check_rules.specs.Linkage.{is_internal_by, linkage_point}
use Rattle.pw_check_decl_names.proofs.PointLemmas.{three_found}
use Rattle.pw_check_decl_names.proofs.points.global_asked.Goals as goal

pub returns : goal.returns
returns c =
    three_found (linkage_point (view_state c.args.state.now) c.args.word.now.text.items c.args.word.now.token (is_internal_by (view_state c.args.state.now) c.args.word.now.text.items (asking_of AGlobal (view_specified c.args.specified.now))) (view_qtype c.args.q.now)) (definition_point (view_state c.args.state.now) (view_word c.args.word.now) c.args.initialised) (global_point (records_in (view_state c.args.state.now)) (view_spot c.args.spot.now) c.args.initialised (view_specified c.args.specified.now) (view_qtype c.args.q.now))
    c.linkage_asked-linked.result.least c.definition_point-defined.result.least c.global_point.result.least c.and.result.least
    (c.linkage_asked-linked.ensures ∙ ap (λ k. found (linkage_point (view_state c.args.state.now) c.args.word.now.text.items c.args.word.now.token (is_internal_by (view_state c.args.state.now) c.args.word.now.text.items k) (view_qtype c.args.q.now))) c.asking_of.ensures) c.definition_point-defined.ensures
    (c.global_point.ensures ∙ ap (λ rs. found (global_point rs (view_spot c.args.spot.now) c.args.initialised (view_specified c.args.specified.now) (view_qtype c.args.q.now))) c.records.ensures)
    c.and.ensures
