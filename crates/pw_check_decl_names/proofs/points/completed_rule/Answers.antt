use Rattle.std.proofs.Common.{◌∙◌, ap}
use Rattle.pw_check_state.specs.StateViews.{view_state}
use Rattle.pw_types.specs.Views.{view_qtype}
use Rattle.pw_check_rules.specs.States.{records_in}
use Rattle.pw_check_walk.specs.Walks.{bind}
use Rattle.pw_check_walk.specs.Found.{found}
use Rattle.pw_check_rules.specs.Declarations.{completed_rule}
use Rattle.pw_check_rules.specs.Limits.{type_within}
use Rattle.pw_check_decl_names.proofs.PointLemmas.{meets_told}
use Rattle.pw_check_decl_names.proofs.points.completed_rule.Goals as goal

pub returns : goal.returns
unfolding bind completed_rule
returns c =
    let s = (view_state c.args.state.now) in
    meets_told (type_within (records_in s) c.args.word.now.token (view_qtype c.args.q.now)) s c.in_ok-type_within.field-0.least c.end.result
    (c.in_ok-type_within.ensures ∙ ap (λ rs. found (type_within rs c.args.word.now.token (view_qtype c.args.q.now))) c.records.ensures)
    c.end.ensures
