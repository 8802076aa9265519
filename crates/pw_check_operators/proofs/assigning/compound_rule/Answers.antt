use Rattle.std.proofs.Common.{ap, sym, ◌∙◌}
use Rattle.pw_check_state.specs.StateViews.{view_state}
use Rattle.pw_check_state.specs.Views.{view_node, view_operand}
use Rattle.pw_check_rules.specs.Operands.{value_operand}
use Rattle.pw_check_rules.specs.Operators.{compound_node, compound_rule, fits_compound, is_modifiable}
use Rattle.pw_check_rules.specs.States.{records_in}
use Rattle.pw_typed.specs.Views.{view_expr}
use Rattle.pw_typed.specs.declared.tree.TExpr.{TExpr}
use Rattle.pw_types.specs.Views.{view_type}
use Rattle.pw_check_walk.specs.Walks.{bind}
use Rattle.pw_check_operators.proofs.PointLaws.{compound_broken, compound_met}
use Rattle.pw_check_operators.proofs.assigning.compound_rule.Goals as goal

pub returns-then-not-is_modifiable : goal.returns-then-not-is_modifiable
unfolding compound_rule bind
returns-then-not-is_modifiable c =
    let s = view_state c.args.state.now in
    let left = view_operand c.args.left in
    let right = view_node c.args.right in
    rw c.typing.ensures
    (compound_broken view_operand c.args.token (is_modifiable (records_in s) left)
    (fits_compound (records_in s) c.args.operator (view_type c.args.left.node.value.ty.ty) right)
    (value_operand (compound_node c.args.token c.args.operator left.node right)) s
    (ap (λ x. is_modifiable x left) (sym c.records.ensures) ∙ sym c.is_modifiable.ensures ∙ c.if-not-is_modifiable.true))

pub returns : goal.returns
unfolding compound_rule bind
returns c =
    let s = view_state c.args.state.now in
    let left = view_operand c.args.left in
    let right = view_node c.args.right in
    let ty = view_type c.args.left.node.value.ty.ty in
    let op = c.args.operator in
    let records = c.records-2.result.now in
    compound_met view_operand c.args.token (is_modifiable (records_in s) left) (fits_compound (records_in s) op ty right)
    (value_operand (compound_node c.args.token op left.node right)) s c.value.result
    (ap (λ x. is_modifiable x left) (sym c.records.ensures) ∙ sym c.is_modifiable.ensures ∙ c.if-not-is_modifiable.false)
    (ap (λ x. fits_compound x op ty right) (sym c.records-2.ensures)
    ∙ ap (λ (e : TExpr). fits_compound records op (view_type e.ty.ty) right) (sym c.deref.ensures)
    ∙ ap (λ (e : TExpr). fits_compound records op (view_type c.deref.result.now.ty.ty) (view_expr e)) (sym c.deref-2.ensures)
    ∙ sym c.fits_compound.ensures
    ∙ c.if-not-fits_compound.false)
    (c.value.ensures ∙ ap value_operand c.in_ok-node.ensures)
