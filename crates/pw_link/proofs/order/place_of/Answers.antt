use Rattle.std.proofs.Common.{sym, ap, ◌∙◌}
use Rattle.std.specs.Borrow.{Bor}
use Rattle.pw_link_interface.specs.FromObject.Object.{Object}
use Rattle.pw_value.specs.Names.{is_before}
use Rattle.pw_link.proofs.Growing.{first_place}
use Rattle.pw_link.proofs.order.place_of.Goals as goal

pub returns-then-lt-clause-place : goal.returns-then-lt-clause-place
returns-then-lt-clause-place c =
    let here = ap (λ (o : Bor Object). is_before c.args.object.now.module o.now.module) (sym c.index-order-place.is) ∙ sym c.lt.ensures ∙ c.if-lt.true in
    sym (first_place (λ (o : Bor Object). o.now) (λ p. is_before c.args.object.now.module p.module) c.args.order.now c.loop-place.place c.index-order-place.result c.loop-place-test.true c.loop-place.invariant here)
