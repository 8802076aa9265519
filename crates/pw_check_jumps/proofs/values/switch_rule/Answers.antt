use Rattle.std.proofs.Common.{refl, ap, sym, ◌∙◌, rules}
use Rattle.pw_check_walk.proofs.CallLaws.{step_ok, step_err}
use Rattle.pw_check_labels.proofs.Steps.{ends, one_met, one_broken}
use Rattle.pw_check_state.specs.Views.{view_node}
use Rattle.pw_check_rules.specs.Kinds.{is_integral}
use Rattle.pw_types.specs.WellTyped.{type_in}
use Rattle.pw_check_rules.specs.Statements.{switch_rule}
use Rattle.pw_typed.specs.declared.tree.TExpr.{TExpr}
use Rattle.pw_types.specs.Views.{view_type}
use Rattle.pw_check_walk.specs.Causes.{IntegralSwitch}
use Rattle.pw_check_jumps.proofs.values.switch_rule.Goals as goal

pub returns-in_err-value : goal.returns-in_err-value
unfolding switch_rule
returns-in_err-value g c = step_err _ c.whole.ensures c.in_err-value.was (search rules)

pub returns-then-not-is_integral : goal.returns-then-not-is_integral
unfolding switch_rule
returns-then-not-is_integral g c =
    step_ok _ c.whole.ensures c.in_ok-value.was
    (rw c.typing.ensures
    (one_broken _ IntegralSwitch c.args.token (is_integral (type_in (view_node c.in_ok-value.value))) _ (ap (λ (e : TExpr). is_integral (view_type e.ty.ty)) (sym c.deref.ensures) ∙ sym c.is_integral.ensures ∙ c.if-not-is_integral.true)))

pub returns : goal.returns
unfolding switch_rule
returns g c =
    step_ok _ c.whole.ensures c.in_ok-value.was
    (one_met IntegralSwitch c.args.token (is_integral (type_in (view_node c.in_ok-value.value))) _ (ap (λ (e : TExpr). is_integral (view_type e.ty.ty)) (sym c.deref.ensures) ∙ sym c.is_integral.ensures ∙ c.if-not-is_integral.false)
    (ends c.in_ok-promote.ensures refl))
