use Rattle.std.proofs.Common.{◌<◌, ◌≤◌, ◌∙◌, get_or, length, arith, ap, sym}
use Rattle.std.proofs.lemmas.List.{get_or_default, take_all}
use Rattle.pw_alloc_weights.specs.Ordering.{numbered}
use Rattle.pw_alloc_weights.proofs.Ranking.{numbered_next}
use Rattle.pw_alloc_weights.proofs.order.with_weights.Goals as goal

pub loop-temp-preserved : goal.loop-temp-preserved
loop-temp-preserved c =
    let ws = c.args.weights.now in
    let k = c.loop-temp.temp in
    let w = get_or ws k 0 in
    let lt : k < length ws = omega (arith, c.loop-temp-test.true, c.requires) in
    numbered_next ws k w c.loop-temp.all.items c.push.new.self.items lt (sym (get_or_default ws k w 0 lt)) c.in_ok-push.ensures.items c.loop-temp.invariant

pub returns : goal.returns
returns c =
    let ws = c.args.weights.now in
    let le : length ws ≤ c.loop-temp.temp = omega (arith, c.loop-temp-test.false, c.requires) in
    c.loop-temp.invariant ∙ ap (numbered 0) (take_all c.loop-temp.temp ws le)
