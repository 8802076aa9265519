use Rattle.std.proofs.lemmas.Result.{IfOk-weaker}
use Rattle.pw_webs.proofs.Gather.{part_is_chain, one_root}
use Rattle.pw_webs.proofs.parts.part.Goals as goal

pub returns-clause-holds : goal.returns-clause-holds
returns-clause-holds c =
    let from = c.insert.new.self in
    let only = one_root from c.in_ok-from.from c.args.root c.in_ok-from.ensures.empty c.insert.ensures.holds in
    IfOk-weaker c.closure.result _ _ (λ found h. part_is_chain c.args.both.now c.args.region.now from c.args.root c.requires.root only found h) c.closure.ensures.holds
