use Rattle.std.proofs.Common.{refl, ap, sym, ◌∙◌, rules}
use Rattle.pw_check_walk.proofs.CallLaws.{step_ok, step_err}
use Rattle.pw_check_labels.proofs.Steps.{ends, one_met, one_broken}
use Rattle.pw_check_state.specs.Views.{view_node}
use Rattle.pw_check_rules.specs.Kinds.{is_scalar}
use Rattle.pw_types.specs.WellTyped.{type_in}
use Rattle.pw_check_rules.specs.Statements.{condition_rule}
use Rattle.pw_typed.specs.declared.tree.TExpr.{TExpr}
use Rattle.pw_types.specs.Views.{view_type}
use Rattle.pw_check_walk.specs.Causes.{ScalarCondition}
use Rattle.pw_check_jumps.proofs.values.condition_rule.Goals as goal

pub returns-in_err-condition : goal.returns-in_err-condition
unfolding condition_rule
returns-in_err-condition g c = step_err _ c.whole.ensures c.in_err-condition.was (search rules)

pub returns-then-not-is_scalar : goal.returns-then-not-is_scalar
unfolding condition_rule
returns-then-not-is_scalar g c =
    step_ok _ c.whole.ensures c.in_ok-condition.was
    (rw c.typing.ensures
    (one_broken _ ScalarCondition c.args.token (is_scalar (type_in (view_node c.in_ok-condition.condition))) _ (ap (λ (e : TExpr). is_scalar (view_type e.ty.ty)) (sym c.deref.ensures) ∙ sym c.is_scalar.ensures ∙ c.if-not-is_scalar.true)))

pub returns : goal.returns
unfolding condition_rule
returns g c =
    step_ok _ c.whole.ensures c.in_ok-condition.was
    (one_met ScalarCondition c.args.token (is_scalar (type_in (view_node c.in_ok-condition.condition))) _ (ap (λ (e : TExpr). is_scalar (view_type e.ty.ty)) (sym c.deref.ensures) ∙ sym c.is_scalar.ensures ∙ c.if-not-is_scalar.false) (ends refl refl))
