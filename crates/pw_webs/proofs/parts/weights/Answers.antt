use Rattle.std.proofs.Common.{refl, inl, inr}
use Rattle.pw_webs.proofs.PartLaws.{key_none, key_more, key_end, key_here}
use Rattle.pw_webs.proofs.parts.weights.Goals as goal

pub loop-each-init : goal.loop-each-init
loop-each-init c = key_none c.args.global

pub loop-each-preserved : goal.loop-each-preserved
loop-each-preserved c = key_more c.args.row.now c.loop-each.each-index c.args.global c.loop-each-test.true c.if-each-global.false c.loop-each.invariant

pub returns-then-each-global : goal.returns-then-each-global
returns-then-each-global c = inl (key_here c.args.row.now c.loop-each.each-index c.args.global c.loop-each-test.true c.if-each-global.true)

pub returns : goal.returns
returns c = inr (refl, refl, key_end c.args.row.now c.loop-each.each-index c.args.global c.loop-each-test.false c.loop-each.invariant)
