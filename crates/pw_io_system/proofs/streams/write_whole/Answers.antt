use Rattle.std.proofs.Common.{rules}
use Rattle.pw_io_system.proofs.Written.{further}
use Rattle.pw_io_system.proofs.streams.write_whole.Goals as goal

pub loop-done-preserved : goal.loop-done-preserved
loop-done-preserved g c =
    (search rules, further _ _ _ _ c.loop-done.done c.in-Ok.count c.loop-done.invariant.1 c.in-Ok.ensures.bytes)
