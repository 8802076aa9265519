use Rattle.std.proofs.Common.{◌∙◌, refl}
use Rattle.pw_live_fronts.specs.Exposing.{IsExposed}
use Rattle.pw_live_fronts.proofs.Readings.{nothing_read, expose_more, expose_end}
use Rattle.pw_live_fronts.proofs.exposed.expose_uses.Goals as goal

pub loop-t-init : goal.loop-t-init
loop-t-init c = record { count = refl; kept = λ u h. h; there = λ u there _. absurd (nothing_read c.args.uses.now u there) }

pub loop-t-preserved : goal.loop-t-preserved
loop-t-preserved c =
    let uses = c.args.uses.now in
    let k = c.loop-t.t-index in
    record {
      count = c.expose_use.ensures.count ∙ c.loop-t.invariant.count;
      kept = λ u h. c.expose_use.ensures.kept u (c.loop-t.invariant.kept u h);
      there = expose_more uses c.args.marks.now k c.args.mark (IsExposed c.loop-t.exposed) (IsExposed c.expose_use.new.exposed) c.loop-t-test.true
          c.expose_use.ensures.kept c.in_ok-expose_use.ensures.there c.loop-t.invariant.there;
    }

pub returns-clause-there : goal.returns-clause-there
returns-clause-there c = expose_end c.args.uses.now c.args.marks.now c.loop-t.t-index c.args.mark (IsExposed c.loop-t.exposed) c.loop-t-test.false c.loop-t.invariant.there
