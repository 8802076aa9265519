use Rattle.std.proofs.Common.{◌∙◌, [], ◌∷◌, ◌++◌, ap}
use Rattle.pw_check_state.specs.StateViews.{view_state}
use Rattle.pw_types.specs.Views.{view_qtype}
use Rattle.pw_check_rules.specs.States.{records_in}
use Rattle.pw_check_walk.specs.Walks.{bind}
use Rattle.pw_check_walk.specs.Found.{found}
use Rattle.pw_check_rules.specs.Declarations.{fitting_rule}
use Rattle.pw_check_rules.specs.Limits.{type_within}
use Rattle.pw_check_rules.specs.Linkage.{fitting}
use Rattle.pw_check_decl_names.proofs.PointLemmas.{both_found, meets_told}
use Rattle.pw_check_decl_names.proofs.points.fitting_rule.Goals as goal

pub returns : goal.returns
unfolding bind fitting_rule
returns c =
    let s = (view_state c.args.state.now) in
    let q = (view_qtype c.args.q.now) in
    let fits = fitting s c.args.place c.args.word.now.token q ∷ [] in
    let within = type_within (records_in s) c.args.word.now.token q in
    meets_told (fits ++ within) s c.and.result.least c.end.result
    (both_found fits within c.fitting-fits.result.least c.and.result.least c.in_ok-type_within.field-0.least
    c.fitting-fits.ensures
    (c.in_ok-type_within.ensures ∙ ap (λ rs. found (type_within rs c.args.word.now.token q)) c.records.ensures)
    c.and.ensures)
    c.end.ensures
