use Rattle.std.proofs.Common.{arith}
use Rattle.std.proofs.lemmas.Grind.{common_steps}
use Rattle.pw_check_types.proofs.PairLemmas.{same_none}
use Rattle.pw_check_types.proofs.same.+same.Goals as goal

pub same_types-returns : goal.same_types-returns
same_types-returns t c = grind (arith, common_steps, same_none, c.loop-q.invariant)
