use Rattle.std.proofs.Common.{refl, rules}
use Rattle.pw_check_walk.proofs.CallLaws.{step_ok, step_err}
use Rattle.pw_check_labels.proofs.Steps.{from, from_within, ends}
use Rattle.pw_check_rules.specs.States.{scoped}
use Rattle.pw_check_rules.specs.Statements.{stmt_rule}
use Rattle.pw_check_stmt.proofs.stmt.scoped_block.Goals as goal

pub returns-in_err-made : goal.returns-in_err-made
unfolding stmt_rule scoped
returns-in_err-made g c =
    from_within _ _ refl c.in_ok-one_deeper.ensures (step_err _ c.block_rule.ensures c.in_err-made.was (search rules))

pub returns : goal.returns
unfolding stmt_rule scoped
returns g c =
    from_within _ _ refl c.in_ok-one_deeper.ensures
    (step_ok _ c.block_rule.ensures c.in_ok-made.was (from _ refl c.leave_scope.ensures (ends refl refl)))
