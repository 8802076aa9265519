use Rattle.std.proofs.Common.{arith}
use Rattle.pw_summarise.proofs.WeightLaws.{power_fits}
use Rattle.pw_summarise.proofs.weights.weight.Goals.{then-depth-lt-DEEPEST, else-depth-lt-DEEPEST}
use Rattle.pw_summarise.proofs.weights.weight.Goals as goal

pub pow-requires : goal.pow-requires
pow-requires c = power_fits c.if-depth-lt-DEEPEST.depth (elim c.if-depth-lt-DEEPEST.branch [
  | then-depth-lt-DEEPEST w ↦ omega arith
  | else-depth-lt-DEEPEST w ↦ omega arith
])
