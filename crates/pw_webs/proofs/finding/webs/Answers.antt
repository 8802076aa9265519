use Rattle.std.proofs.Common.{◌+◌, List, arith, subst, sym}
use Rattle.pw_webs.specs.declared.web.RawWeb.{RawWeb}
use Rattle.pw_webs.proofs.Gather.{AreFound, found_more, found_all, found_few}
use Rattle.pw_webs.proofs.finding.webs.Goals as goal

pub loop-global-preserved : goal.loop-global-preserved
loop-global-preserved c =
    let w = c.in_ok-add_webs.ensures in
    subst (λ (ws : List RawWeb). AreFound c.args.graph.now (c.loop-global.global + 1) ws) (sym w.1) (found_more c.args.graph.now c.loop-global.global c.loop-global.found.items w.0 c.loop-global.invariant w.2 w.3)

pub returns-clause-webs : goal.returns-clause-webs
returns-clause-webs c =
    let size = c.len-global-end.ensures in
    let low = c.loop-global.auto.global-end in
    let high = c.loop-global-test.false in
    found_all c.args.graph.now c.loop-global.global c.loop-global.found.items (omega (arith, size, low)) (omega (arith, size, high)) c.loop-global.invariant

pub returns-clause-count : goal.returns-clause-count
returns-clause-count c =
    let size = c.len-global-end.ensures in
    let low = c.loop-global.auto.global-end in
    let high = c.loop-global-test.false in
    found_few c.args.graph.now c.loop-global.global c.loop-global.found.items (omega (arith, size, low)) (omega (arith, size, high)) c.loop-global.invariant
