use Rattle.std.proofs.Common.{refl, rules}
use Rattle.pw_check_walk.proofs.CallLaws.{step_ok, step_err}
use Rattle.pw_check_labels.proofs.Steps.{from, from_within}
use Rattle.pw_check_rules.specs.Functions.{body_rule}
use Rattle.pw_check_functions.specs.Bodies.{end_body}
use Rattle.pw_check_functions.proofs.functions.body_rule.Goals as goal

pub returns-in_err-body : goal.returns-in_err-body
unfolding body_rule
returns-in_err-body c =
    from_within _ _ refl c.in_ok-begin_body.ensures (step_err _ c.check_body.ensures c.in_err-body.was (search rules))

pub returns : goal.returns
unfolding body_rule end_body
returns c =
    from_within _ _ refl c.in_ok-begin_body.ensures
    (step_ok _ c.check_body.ensures c.in_ok-body.was (from _ c.in_ok-f.ensures refl c.end_body.ensures))
