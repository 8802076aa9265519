use Rattle.std.proofs.Common.{◌≡◌, ap, sym, ◌∙◌, unwrap_or}
use Rattle.pw_check_state.specs.StateViews.{view_state}
use Rattle.pw_check_state.specs.Views.{view_operand}
use Rattle.pw_check_rules.specs.Kinds.{is_complete}
use Rattle.pw_check_rules.specs.Operands.{value_operand}
use Rattle.pw_check_rules.specs.Operators.{size_node, size_rule}
use Rattle.pw_check_rules.specs.States.{records_in}
use Rattle.pw_typed.specs.declared.tree.TExpr.{TExpr}
use Rattle.pw_types.specs.Layouts.{size_of}
use Rattle.pw_types.specs.Views.{view_type}
use Rattle.pw_check_walk.specs.Causes.{SizedOperand}
use Rattle.pw_check_walk.specs.Walks.{bind}
use Rattle.pw_check_operators.proofs.PointLaws.{point_broken, point_met}
use Rattle.pw_check_operators.proofs.sizes.size_rule.Goals as goal

pub returns-then-not-is_complete : goal.returns-then-not-is_complete
unfolding size_rule bind
returns-then-not-is_complete c =
    let s = view_state c.args.state.now in
    let ty = view_type c.args.a.node.value.ty.ty in
    let records = c.records-types.result.now in
    let tested : is_complete (records_in s) ty ≡ c.is_complete.result =
    ap (λ x. is_complete x ty) (sym c.records-types.ensures)
    ∙ ap (λ (e : TExpr). is_complete records (view_type e.ty.ty)) (sym c.deref.ensures)
    ∙ sym c.is_complete.ensures in
    rw c.typing.ensures
    (point_broken view_operand SizedOperand c.args.token (is_complete (records_in s) ty)
    (value_operand (size_node c.args.token (unwrap_or (size_of (records_in s) ty) 0))) s
    (tested ∙ c.if-not-is_complete.true))

pub returns : goal.returns
unfolding size_rule bind
returns c =
    let s = view_state c.args.state.now in
    let ty = view_type c.args.a.node.value.ty.ty in
    let records = c.records-types.result.now in
    let tested : is_complete (records_in s) ty ≡ c.is_complete.result =
    ap (λ x. is_complete x ty) (sym c.records-types.ensures)
    ∙ ap (λ (e : TExpr). is_complete records (view_type e.ty.ty)) (sym c.deref.ensures)
    ∙ sym c.is_complete.ensures in
    point_met view_operand SizedOperand c.args.token (is_complete (records_in s) ty)
    (value_operand (size_node c.args.token (unwrap_or (size_of (records_in s) ty) 0))) s c.in_ok-size_operand.field-0
    (tested ∙ c.if-not-is_complete.false)
    (c.in_ok-size_operand.ensures
    ∙ ap (λ (e : TExpr). value_operand (size_node c.args.token (unwrap_or (size_of records (view_type e.ty.ty)) 0))) c.deref-2.ensures
    ∙ ap (λ x. value_operand (size_node c.args.token (unwrap_or (size_of x ty) 0))) c.records-types.ensures)
