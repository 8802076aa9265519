use Rattle.std.proofs.Common.{◌≡◌, ◌^◌, ℕ, min, arith, ap}
use Rattle.pw_alloc_temps.specs.Weights.{depth_limit}
use Rattle.pw_alloc_weights.proofs.weights.factor.Goals as goal

pub returns-in_default : goal.returns-in_default
returns-in_default c = let deep : depth_limit ≡ min depth_limit c.args.depth = omega arith in ap (λ (n : ℕ). 8 ^ n) deep
