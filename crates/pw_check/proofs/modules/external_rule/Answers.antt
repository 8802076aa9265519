use Rattle.std.proofs.Common.{refl, ap, rules}
use Rattle.pw_check_state.specs.StateViews.{view_state}
use Rattle.pw_tree.specs.Views.{view_external}
use Rattle.pw_check_walk.proofs.CallLaws.{step_ok, step_err}
use Rattle.pw_check_labels.proofs.Steps.{ends, same}
use Rattle.pw_check_rules.specs.Modules.{external_rule}
use Rattle.pw_check.proofs.modules.external_rule.Goals as goal

pub returns-in-Function : goal.returns-in-Function
unfolding external_rule
returns-in-Function c = same (ap (λ x. external_rule (view_external x) (view_state c.args.state.now)) c.in-Function.is) c.function_rule.ensures

pub returns-in_err-decl_rule-in-Declaration : goal.returns-in_err-decl_rule-in-Declaration
unfolding external_rule
returns-in_err-decl_rule-in-Declaration c =
    same (ap (λ x. external_rule (view_external x) (view_state c.args.state.now)) c.in-Declaration.is)
    (step_err _ c.decl_rule.ensures c.in_err-decl_rule-in-Declaration.was (search rules))

pub returns-in_ok-decl_rule-in-Declaration : goal.returns-in_ok-decl_rule-in-Declaration
unfolding external_rule
returns-in_ok-decl_rule-in-Declaration c =
    same (ap (λ x. external_rule (view_external x) (view_state c.args.state.now)) c.in-Declaration.is)
    (step_ok _ c.decl_rule.ensures c.in_ok-decl_rule-in-Declaration.was (ends refl refl))
