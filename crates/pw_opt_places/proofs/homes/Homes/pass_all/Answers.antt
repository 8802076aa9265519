use Rattle.pw_opt_places.proofs.Homing.{blocks_now}
use Rattle.pw_opt_places.proofs.homes.Homes.pass_all.Goals as goal

pub loop-place-preserved : goal.loop-place-preserved
loop-place-preserved c =
    blocks_now c.args.self.now c.loop-place.self c.pass.new.self c.args.blocks.now c.loop-place.place c.index-blocks-place.result c.loop-place-test.true c.index-blocks-place.is
    c.loop-place.invariant c.pass.ensures
