use Rattle.std.proofs.Common.{rules, refl, ap, not, ◌||◌, ◌∙◌}
use Rattle.pw_check_state.specs.PhraseViews.{view_name, view_specified, view_spot}
use Rattle.pw_check_state.specs.StateViews.{view_state}
use Rattle.pw_token.specs.declared.token.Feature.TheVariants.{StructByValue}
use Rattle.pw_types.specs.TypeTrees.{type_of}
use Rattle.pw_types.specs.Views.{view_qtype}
use Rattle.pw_check_walk.specs.Found.{found, with_cause}
use Rattle.pw_check_walk.proofs.FindingLaws.{point_ok, point_err}
use Rattle.pw_check_rules.specs.Kinds.{is_record, is_void}
use Rattle.pw_check_rules.specs.Leaves.{adjusted, named_point, says_none}
use Rattle.pw_check_rules.specs.Limits.{type_within}
use Rattle.pw_check_rules.specs.States.{records_in}
use Rattle.pw_check_walk.specs.Causes.{needs, VoidAlone, NoRecordByValue}
use Rattle.pw_check_walk.specs.declared.constraints.CheckKind.TheVariants.{Typing, Unsupported}
use Rattle.pw_check_walk.specs.Walks.{bind, pure}
use Rattle.pw_check_leaves.specs.Parts.{parameter_point, parameter_type}
use Rattle.pw_check_leaves.proofs.PointLaws.{tested, made_there}
use Rattle.pw_check_leaves.proofs.parameters.parameter_asked.Goals as goal

pub returns-in_err-end : goal.returns-in_err-end
unfolding parameter_type bind
returns-in_err-end c =
    let s = view_state c.args.state.now in
    let spot = view_spot c.args.spot.now in
    let b = view_specified c.args.specified.now in
    let name = view_name c.args.name in
    let q = view_qtype c.args.ty in
    point_err (parameter_point c.args.sole spot b name q s) (pure (adjusted q)) s
    (tested {first = c.needs.result.least} {second = c.needs-2.result.least} {behind = c.in_ok-type_within.field-0.least}
    (named_point s name) (needs VoidAlone spot.token (not (is_void (type_of q)) || says_none c.args.sole b name q))
    (needs NoRecordByValue b.first (not (is_record (type_of q)))) (type_within (records_in s) spot.token (adjusted q))
    c.named_point.ensures
    (c.needs.ensures
    ∙ ap (λ x. with_cause c.named_point.result.least (not x) (record { kind = Typing; token = spot.token })) c.is_lawful_type-lawful.ensures)
    (c.needs-2.ensures
    ∙ ap (λ x. with_cause c.needs.result.least (not (not x)) (record { kind = Unsupported StructByValue; token = b.first })) c.is_record-by_value.ensures)
    (c.in_ok-type_within.ensures
    ∙ ap (λ rs. found (type_within rs spot.token (view_qtype c.in_ok-ty.ty))) c.records.ensures
    ∙ ap (λ t. found (type_within (records_in s) spot.token t)) c.in_ok-ty.ensures)
    c.and.ensures)
    c.end.ensures c.in_err-end.was (search rules)

pub returns : goal.returns
unfolding parameter_type bind
returns c =
    let s = view_state c.args.state.now in
    let spot = view_spot c.args.spot.now in
    let b = view_specified c.args.specified.now in
    let name = view_name c.args.name in
    let q = view_qtype c.args.ty in
    point_ok (parameter_point c.args.sole spot b name q s) (pure (adjusted q)) s
    (tested {first = c.needs.result.least} {second = c.needs-2.result.least} {behind = c.in_ok-type_within.field-0.least}
    (named_point s name) (needs VoidAlone spot.token (not (is_void (type_of q)) || says_none c.args.sole b name q))
    (needs NoRecordByValue b.first (not (is_record (type_of q)))) (type_within (records_in s) spot.token (adjusted q))
    c.named_point.ensures
    (c.needs.ensures
    ∙ ap (λ x. with_cause c.named_point.result.least (not x) (record { kind = Typing; token = spot.token })) c.is_lawful_type-lawful.ensures)
    (c.needs-2.ensures
    ∙ ap (λ x. with_cause c.needs.result.least (not (not x)) (record { kind = Unsupported StructByValue; token = b.first })) c.is_record-by_value.ensures)
    (c.in_ok-type_within.ensures
    ∙ ap (λ rs. found (type_within rs spot.token (view_qtype c.in_ok-ty.ty))) c.records.ensures
    ∙ ap (λ t. found (type_within (records_in s) spot.token t)) c.in_ok-ty.ensures)
    c.and.ensures)
    c.end.ensures c.in_ok-end.was (made_there (adjusted q) s refl c.in_ok-ty.ensures)
