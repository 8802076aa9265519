use Rattle.std.proofs.Common.{refl, ap, rules}
use Rattle.pw_check_state.specs.StateViews.{view_state}
use Rattle.pw_tree.specs.Views.{view_optional}
use Rattle.pw_check_walk.proofs.CallLaws.{step_ok, step_err}
use Rattle.pw_check_labels.proofs.Steps.{ends, same}
use Rattle.pw_check_rules.specs.Statements.{optional_rule}
use Rattle.pw_check_jumps.proofs.values.optional_rule.Goals as goal

pub returns-in_err-made-in-Some : goal.returns-in_err-made-in-Some
unfolding optional_rule
returns-in_err-made-in-Some g c =
    same (ap (λ o. optional_rule (view_optional o) (view_state c.args.state.now)) c.in-Some.is)
    (step_err _ c.whole.ensures c.in_err-made-in-Some.was (search rules))

pub returns-in_ok-made-in-Some : goal.returns-in_ok-made-in-Some
unfolding optional_rule
returns-in_ok-made-in-Some g c =
    same (ap (λ o. optional_rule (view_optional o) (view_state c.args.state.now)) c.in-Some.is)
    (step_ok _ c.whole.ensures c.in_ok-made-in-Some.was (ends refl refl))

pub returns-in-None : goal.returns-in-None
unfolding optional_rule
returns-in-None g c = same (ap (λ o. optional_rule (view_optional o) (view_state c.args.state.now)) c.in-None.is) (ends refl refl)
