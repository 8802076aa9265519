use Rattle.std.proofs.Common.{◌≤◌, All, arith, subst}
use Rattle.std.proofs.lemmas.List.{take_all}
use Rattle.std.proofs.lemmas.List.Elements.{All-nil}
use Rattle.pw_opt_places.proofs.Giving.{greatest_least, greatest_more}
use Rattle.pw_opt_places.proofs.places.greatest.Goals as goal

pub loop-n-init : goal.loop-n-init
loop-n-init c = (All-nil _, λ n all. omega arith)

pub loop-n-preserved : goal.loop-n-preserved
loop-n-preserved c = (
  greatest_more c.args.numbers.now c.loop-n.n-index c.loop-n.most c.larger-most.result c.loop-n-test.true c.loop-n.invariant.0 c.larger-most.ensures.first c.larger-most.ensures.second,
  greatest_least c.args.numbers.now c.loop-n.n-index c.loop-n.most c.larger-most.result c.loop-n-test.true c.loop-n.invariant.1 c.larger-most.ensures.least,
)

pub returns-clause-bound : goal.returns-clause-bound
returns-clause-bound c = subst (All (λ n. n ≤ c.loop-n.most)) (take_all c.loop-n.n-index c.args.numbers.now c.loop-n-test.false) c.loop-n.invariant.0

pub returns-clause-least : goal.returns-clause-least
returns-clause-least c = c.loop-n.invariant.1
