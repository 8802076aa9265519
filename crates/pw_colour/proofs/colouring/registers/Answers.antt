use Rattle.std.proofs.Common.{[], ℕ, List, subst, sym}
use Rattle.std.specs.Prelude.{Option}
use Rattle.pw_colour.proofs.Given.{AreGiven, given_none, given_put, given_end}
use Rattle.pw_colour.proofs.colouring.registers.Goals as goal

pub loop-web-init : goal.loop-web-init
loop-web-init c =
    subst (λ (rs : List (Option ℕ)). AreGiven c.args.colours c.args.functions [] c.in_ok-busy.busy rs) (sym c.in_ok-found.ensures.items)
    (given_none c.args.colours c.args.functions c.in_ok-busy.busy c.in_ok-busy.ensures.count c.in_ok-busy.ensures.length c.in_ok-busy.ensures.empty)

pub loop-web-preserved : goal.loop-web-preserved
loop-web-preserved c =
    given_put c.args.colours c.args.functions c.args.webs.now c.loop-web.web-index c.web-item.result c.give.result c.loop-web.busy c.give.new.busy c.loop-web.found.items c.push.new.self.items c.requires.differ c.loop-web-test.true c.web-item.is
    c.in_ok-push.ensures.items c.give.ensures.count c.give.ensures.length c.give.ensures.given c.loop-web.invariant

pub returns-clause-count : goal.returns-clause-count
returns-clause-count c = (given_end c.args.colours c.args.functions c.args.webs.now c.loop-web.web-index c.loop-web.busy c.loop-web.found.items c.loop-web-test.false c.loop-web.invariant).long

pub returns-clause-coloured : goal.returns-clause-coloured
returns-clause-coloured c = (given_end c.args.colours c.args.functions c.args.webs.now c.loop-web.web-index c.loop-web.busy c.loop-web.found.items c.loop-web-test.false c.loop-web.invariant).coloured
