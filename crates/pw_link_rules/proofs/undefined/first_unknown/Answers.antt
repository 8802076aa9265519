use Rattle.std.proofs.Common.{arith}
use Rattle.pw_link_rules.proofs.Sorted.{some_get, get_some}
use Rattle.pw_link_rules.proofs.Unknown.{known_more, when_true, when_false}
use Rattle.pw_link_rules.proofs.undefined.first_unknown.Goals as goal

pub loop-name-preserved : goal.loop-name-preserved
loop-name-preserved c = known_more c.args.used.now c.args.defined.now c.loop-name.name-index c.name-item.result (some_get c.args.used.now c.loop-name.name-index c.name-item.result c.loop-name-test.true c.name-item.is)
    (when_true c.is_known.result _ _ c.is_known.ensures c.if-not-is_known.false) c.loop-name.invariant

pub returns-then-not-is_known : goal.returns-then-not-is_known
returns-then-not-is_known c =
    let wrong = when_false c.is_known.result _ _ c.is_known.ensures c.if-not-is_known.true in
    (c.loop-name.name-index, some_get c.args.used.now c.loop-name.name-index c.name-item.result c.loop-name-test.true c.name-item.is, wrong.0, wrong.1, c.loop-name.invariant)

pub returns : goal.returns
returns c = λ k name at ordinary. let r = get_some c.args.used.now k name name at in c.loop-name.invariant k name (omega (arith, r.0, c.loop-name-test.false)) at ordinary
