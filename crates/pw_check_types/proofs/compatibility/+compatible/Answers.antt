use Rattle.std.proofs.Common.{arith}
use Rattle.std.proofs.lemmas.Grind.{common_steps}
use Rattle.pw_check_types.proofs.PairLemmas.{compatible_none}
use Rattle.pw_check_types.proofs.compatibility.+compatible.Goals as goal

pub compatible_parameters-returns : goal.compatible_parameters-returns
compatible_parameters-returns t c = grind (arith, common_steps, compatible_none, c.loop-q.invariant)
