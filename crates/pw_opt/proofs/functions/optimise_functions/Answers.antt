use Rattle.std.proofs.Common.{[], sym, subst}
use Rattle.pw_opt_rules.specs.Optimised.{AreOptimised, none}
use Rattle.pw_opt.proofs.Listing.{optimised_more}
use Rattle.pw_opt.proofs.functions.optimise_functions.Goals as goal

pub loop-f-init : goal.loop-f-init
loop-f-init c = subst (AreOptimised c.args.quiet.now.flow.now []) (sym c.new-optimised.ensures) none

pub loop-f-preserved : goal.loop-f-preserved
loop-f-preserved c =
    optimised_more c.args.quiet.now.flow.now c.args.functions.now c.loop-f.f-index c.f-item.result c.in_ok-optimise_function.field-0 c.loop-f.optimised c.push.new.self
    c.loop-f-test.true c.f-item.is c.in_ok-push.ensures c.in_ok-optimise_function.ensures c.loop-f.invariant
