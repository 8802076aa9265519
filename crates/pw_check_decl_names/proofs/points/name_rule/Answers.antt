use Rattle.std.proofs.Common.{◌∙◌, [], ◌∷◌, ◌++◌, ap}
use Rattle.pw_check_state.specs.PhraseViews.{view_specified, view_spot}
use Rattle.pw_check_state.specs.StateViews.{view_state}
use Rattle.pw_tree.specs.Views.{view_word}
use Rattle.pw_types.specs.Views.{view_qtype}
use Rattle.pw_check_rules.specs.States.{records_in}
use Rattle.pw_check_walk.specs.Walks.{bind}
use Rattle.pw_check_walk.specs.Found.{found, found_behind}
use Rattle.pw_check_rules.specs.Declarations.{name_rule, sort_point}
use Rattle.pw_check_rules.specs.Limits.{name_within, type_within}
use Rattle.pw_check_decl_names.specs.Views.{view_sort}
use Rattle.pw_check_decl_names.proofs.PointLemmas.{meets_told, three_found}
use Rattle.pw_check_decl_names.proofs.points.name_rule.Goals as goal

pub returns : goal.returns
unfolding bind name_rule
returns c =
    let s = (view_state c.args.state.now) in
    let w = (view_word c.args.word.now) in
    let asked = sort_point s (view_sort c.args.sort) (view_spot c.args.spot.now) w c.args.initialised (view_specified c.args.specified.now) (view_qtype c.args.q.now) in
    let within = type_within (records_in s) w.token (view_qtype c.args.q.now) in
    meets_told (asked ++ (name_within w.token w.text ∷ within)) s c.and.result.least c.end.result
    (three_found asked (name_within w.token w.text ∷ []) within
    c.sort_point-asked.result.least c.name_within-named.result.least c.in_ok-type_within.field-0.least c.and.result.least
    c.sort_point-asked.ensures
    (c.name_within-named.ensures ∙ ap (λ n. found_behind c.sort_point-asked.result.least (name_within w.token n ∷ [])) c.deref.ensures.value)
    (c.in_ok-type_within.ensures ∙ ap (λ rs. found (type_within rs w.token (view_qtype c.args.q.now))) c.records.ensures)
    c.and.ensures)
    c.end.ensures
