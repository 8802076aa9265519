use Rattle.std.proofs.Common.{◌≡◌, ◌+◌, arith, rules}
use Rattle.std.specs.Prelude.{slice_index}
use Rattle.pw_alloc_weights.proofs.Counting.{counted_set}
use Rattle.pw_alloc_weights.proofs.weights.count.Goals as goal

pub returns-clause-value : goal.returns-clause-value
returns-clause-value c = λ u.
    let ws = c.args.weights.now in
    let sum : c.in-Some.sum ≡ slice_index ws c.args.t + c.args.factor = first_of (omega arith, search rules, grind arith) in
    counted_set ws c.args.t u c.args.factor c.in-Some.sum c.requires sum
