use Rattle.std.proofs.Common.{◌∙◌, [], ◌∷◌, not, ap}
use Rattle.pw_check_state.specs.StateViews.{view_state}
use Rattle.pw_types.specs.Views.{view_qtype}
use Rattle.pw_check_walk.specs.declared.constraints.CheckKind.TheVariants.{Typing}
use Rattle.pw_check_walk.specs.Causes.{needs, InitialisedHere, CompleteObject}
use Rattle.pw_types.specs.TypeTrees.{type_of}
use Rattle.pw_check_walk.specs.Found.{with_cause}
use Rattle.pw_check_rules.specs.Kinds.{is_void}
use Rattle.pw_check_rules.specs.Linkage.{AsBefore, is_internal_by, linkage_point}
use Rattle.pw_check_decl_names.proofs.PointLemmas.{behind_found}
use Rattle.pw_check_decl_names.proofs.points.extern_asked.Goals as goal

pub returns : goal.returns
returns c spot b =
    behind_found (linkage_point (view_state c.args.state.now) c.args.word.now.text.items c.args.word.now.token (is_internal_by (view_state c.args.state.now) c.args.word.now.text.items AsBefore) (view_qtype c.args.q.now))
    (needs InitialisedHere c.args.word.now.token (not c.args.initialised) ∷ needs CompleteObject c.args.word.now.token (not (is_void (type_of (view_qtype c.args.q.now)))) ∷ [])
    c.linkage_asked.result.least c.needs-2.result.least
    c.linkage_asked.ensures
    (c.needs-2.ensures
    ∙ ap (λ y. with_cause y (not (not c.is_void.result)) (record { kind = Typing; token = c.args.word.now.token })) c.needs.ensures
    ∙ ap (λ v. with_cause (with_cause c.linkage_asked.result.least (not (not c.args.initialised)) (record { kind = Typing; token = c.args.word.now.token })) (not (not v)) (record { kind = Typing; token = c.args.word.now.token })) c.is_void.ensures)
