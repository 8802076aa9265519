use Rattle.pw_opt_places.proofs.Homing.{ops_now}
use Rattle.pw_opt_places.proofs.homes.Homes.follow_all.Goals as goal

pub loop-op-preserved : goal.loop-op-preserved
loop-op-preserved c =
    ops_now c.args.block c.args.self.now c.loop-op.self c.follow.new.self c.args.ops.now c.loop-op.op-index c.op-item.result c.loop-op-test.true c.op-item.is c.loop-op.invariant c.follow.ensures
