use Rattle.std.proofs.Common.{arith}
use Rattle.pw_webs.proofs.WalkLaws.{clash}
use Rattle.pw_colour.proofs.Given.{busy_more}
use Rattle.pw_colour.proofs.colouring.least_free.Goals as goal

pub returns-then-not-intersects-clause-found : goal.returns-then-not-intersects-clause-found
returns-then-not-intersects-clause-found c =
    let lt = c.loop-colour-test.true in
    let size = c.len-colour-end.ensures in
    record {
      within = omega (arith, lt, size);
      free = λ b. clash c.intersects.result c.if-not-intersects.true (c.intersects.ensures.1 (b.function, (c.row.ensures.holds b.function).1 b.busy_there, b.member));
      least = c.loop-colour.invariant;
    }

pub loop-colour-preserved : goal.loop-colour-preserved
loop-colour-preserved c =
    let w = c.intersects.ensures.0 c.if-not-intersects.false in
    busy_more c.args.busy.now c.args.members.now c.loop-colour.colour (record { function = w.0; busy_there = (c.row.ensures.holds w.0).0 w.1; member = w.2 }) c.loop-colour.invariant

pub returns-clause-none : goal.returns-clause-none
returns-clause-none c = λ k lt.
    let le = c.loop-colour-test.false in
    let size = c.len-colour-end.ensures in
    c.loop-colour.invariant k (omega (arith, lt, le, size))
