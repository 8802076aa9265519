use Rattle.std.proofs.Common.{rules}
use Rattle.pw_check_primary.proofs.Counting.{uncounted_err, uncounted_ok}
use Rattle.pw_check_primary.proofs.unaries.uncounted_operand.Goals as goal

pub returns-in_err-a : goal.returns-in_err-a
returns-in_err-a g c = uncounted_err _ _ _ _ _ c.set_counting.ensures c.expr.ensures c.in_err-a.was (search rules)

pub returns : goal.returns
returns g c =
    uncounted_ok _ _ _ _ _ _ _ c.is_counting-before.ensures c.set_counting.ensures c.set_counting-2.ensures
    c.expr.ensures c.in_ok-a.was (search rules)
