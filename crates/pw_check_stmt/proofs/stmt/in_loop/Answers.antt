use Rattle.std.proofs.Common.{refl, rules}
use Rattle.pw_check_walk.proofs.CallLaws.{step_ok, step_err}
use Rattle.pw_check_labels.proofs.Steps.{from, from_within, ends}
use Rattle.pw_check_rules.specs.Statements.{in_loop}
use Rattle.pw_check_stmt.proofs.stmt.in_loop.Goals as goal

pub returns-in_err-made : goal.returns-in_err-made
unfolding in_loop
returns-in_err-made g c =
    from_within _ _ refl c.in_ok-enter_loop.ensures.state (step_err _ c.boxed_stmt.ensures c.in_err-made.was (search rules))

pub returns : goal.returns
unfolding in_loop
returns g c =
    from_within _ _ refl c.in_ok-enter_loop.ensures.state
    (step_ok _ c.boxed_stmt.ensures c.in_ok-made.was (from _ refl c.leave_loop.ensures (ends refl refl)))
