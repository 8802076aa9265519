use Rattle.std.proofs.Common.{ℕ, arith}
use Rattle.std.proofs.lemmas.Result.{IfOk-weaker}
use Rattle.pw_fix.specs.Row.{Holds}
use Rattle.pw_webs.specs.Walking.{Leads}
use Rattle.pw_webs.proofs.WalkLaws.{chain_reached, reached_chain}
use Rattle.pw_webs.proofs.walks.reached.Goals as goal

pub returns-clause-holds : goal.returns-clause-holds
returns-clause-holds c =
    let steps = c.args.steps.now in
    let from = c.args.from.now in
    let all = c.in_ok-all.all in
    let near = c.in_ok-first.first in
    let size = c.requires.count in
    let every : (a b : ℕ) → Leads steps a b → Holds all b = λ a b l. let lt = c.requires.steps a b l in c.in_ok-all.ensures.all b (omega (arith, lt, size)) in
    IfOk-weaker c.closure.result _ _ (λ found h f. (λ k. chain_reached steps all from near c.in_ok-first.ensures.holds ((h f).0 k), λ r. (h f).1 (reached_chain steps all from near every c.in_ok-first.ensures.holds f r))) c.closure.ensures.holds
