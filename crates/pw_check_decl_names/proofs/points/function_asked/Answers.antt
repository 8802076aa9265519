use Rattle.std.proofs.Common.{◌∙◌, ap}
use Rattle.pw_check_state.specs.PhraseViews.{view_specified}
use Rattle.pw_check_state.specs.StateViews.{view_state}
use Rattle.pw_types.specs.Views.{view_qtype}
use Rattle.pw_check_walk.specs.Found.{found}
use Rattle.pw_check_rules.specs.Declarations.{AFunction, asking_of, function_point}
use Rattle.pw_check_rules.specs.Linkage.{is_internal_by, linkage_point}
use Rattle.pw_check_decl_names.proofs.PointLemmas.{behind_found}
use Rattle.pw_check_decl_names.proofs.points.function_asked.Goals as goal

pub returns : goal.returns
returns c spot =
    behind_found (linkage_point (view_state c.args.state.now) c.args.word.now.text.items c.args.word.now.token (is_internal_by (view_state c.args.state.now) c.args.word.now.text.items (asking_of AFunction (view_specified c.args.specified.now))) (view_qtype c.args.q.now)) (function_point (view_state c.args.state.now) (view_specified c.args.specified.now) c.args.word.now.token c.args.initialised)
    c.linkage_asked-linked.result.least c.function_point.result.least
    (c.linkage_asked-linked.ensures ∙ ap (λ k. found (linkage_point (view_state c.args.state.now) c.args.word.now.text.items c.args.word.now.token (is_internal_by (view_state c.args.state.now) c.args.word.now.text.items k) (view_qtype c.args.q.now))) c.asking_of.ensures) c.function_point.ensures
