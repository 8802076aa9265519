use Rattle.std.proofs.Common.{refl, sym, ◌∙◌, rules}
use Rattle.pw_check_walk.proofs.CallLaws.{step_ok, step_err}
use Rattle.pw_check_labels.proofs.Steps.{ends, one_met, one_broken}
use Rattle.pw_check_rules.specs.Statements.{is_condition, optional_condition}
use Rattle.pw_check_walk.specs.Causes.{ScalarCondition}
use Rattle.pw_check_jumps.specs.Views.{view_held}
use Rattle.pw_check_jumps.proofs.values.optional_condition.Goals as goal

pub returns-in_err-condition : goal.returns-in_err-condition
unfolding optional_condition
returns-in_err-condition g c = step_err _ c.optional_rule.ensures c.in_err-condition.was (search rules)

pub returns-then-not-is_condition : goal.returns-then-not-is_condition
unfolding optional_condition
returns-then-not-is_condition g c =
    step_ok _ c.optional_rule.ensures c.in_ok-condition.was
    (rw c.typing.ensures
    (one_broken _ ScalarCondition c.args.token (is_condition (view_held c.in_ok-condition.condition)) _ (sym c.is_condition.ensures ∙ c.if-not-is_condition.true)))

pub returns : goal.returns
unfolding optional_condition
returns g c =
    step_ok _ c.optional_rule.ensures c.in_ok-condition.was
    (one_met ScalarCondition c.args.token (is_condition (view_held c.in_ok-condition.condition)) _ (sym c.is_condition.ensures ∙ c.if-not-is_condition.false) (ends refl refl))
