use Rattle.std.proofs.Common.{refl, get_or}
use Rattle.pw_opt_places.proofs.Homing.{reads_now}
use Rattle.pw_opt_places.proofs.homes.Homes.read_all.Goals as goal

pub loop-t-preserved : goal.loop-t-preserved
loop-t-preserved c =
    let ts = c.args.ts.now in
    let i = c.loop-t.t-index in
    reads_now c.args.block c.args.self.now c.loop-t.self c.read.new.self ts i (get_or ts i 0) c.loop-t-test.true refl c.loop-t.invariant c.read.ensures
