use Rattle.std.proofs.Common.{[], ◌∷◌, refl, ap, ◌∙◌, rules, unwrap_or}
use Rattle.pw_check_state.specs.PhraseViews.{view_spot}
use Rattle.pw_check_state.specs.StateViews.{view_state}
use Rattle.pw_check_state.specs.Views.{view_operand}
use Rattle.pw_check_walk.specs.Found.{found}
use Rattle.pw_check_walk.proofs.FindingLaws.{point_ok, point_err}
use Rattle.pw_check_rules.specs.Limits.{completed}
use Rattle.pw_check_rules.specs.Operands.{value_operand}
use Rattle.pw_check_rules.specs.Operators.{size_node, type_size_rule}
use Rattle.pw_check_rules.specs.States.{records_in}
use Rattle.pw_types.specs.Layouts.{size_of}
use Rattle.pw_types.specs.Views.{view_type}
use Rattle.pw_check_walk.specs.Causes.{SizedOperand}
use Rattle.pw_check_walk.specs.Walks.{bind, pure}
use Rattle.pw_check_operators.proofs.PointLaws.{made_there}
use Rattle.pw_check_operators.proofs.sizes.type_size_rule.Goals as goal

pub returns-in_err-end : goal.returns-in_err-end
unfolding type_size_rule bind
returns-in_err-end c =
    let s = view_state c.args.state.now in
    let spot = record (view_spot c.args.spot.now) { token = c.args.token } in
    let ty = view_type c.args.q.ty in
    point_err (completed (records_in s) spot SizedOperand ty ∷ [])
    (pure (value_operand (size_node c.args.token (unwrap_or (size_of (records_in s) ty) 0)))) s
    (c.completed.ensures SizedOperand refl ∙ ap (λ x. found (completed x spot SizedOperand ty ∷ [])) c.records-types.ensures)
    c.end.ensures c.in_err-end.was (search rules)

pub returns : goal.returns
unfolding type_size_rule bind
returns c =
    let s = view_state c.args.state.now in
    let spot = record (view_spot c.args.spot.now) { token = c.args.token } in
    let ty = view_type c.args.q.ty in
    let sized = value_operand (size_node c.args.token (unwrap_or (size_of (records_in s) ty) 0)) in
    point_ok (completed (records_in s) spot SizedOperand ty ∷ []) (pure sized) s
    (c.completed.ensures SizedOperand refl ∙ ap (λ x. found (completed x spot SizedOperand ty ∷ [])) c.records-types.ensures)
    c.end.ensures c.in_ok-end.was
    (made_there view_operand sized s c.in_ok-size_operand.field-0
    (c.in_ok-size_operand.ensures ∙ ap (λ x. value_operand (size_node c.args.token (unwrap_or (size_of x ty) 0))) c.records-types.ensures))
