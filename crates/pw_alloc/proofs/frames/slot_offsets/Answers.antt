use Rattle.std.proofs.Common.{arith}
use Rattle.pw_alloc.proofs.FrameLaws.{next_fits}
use Rattle.pw_alloc.proofs.frames.slot_offsets.Goals as goal

pub next_reach-at-requires : goal.next_reach-at-requires
next_reach-at-requires c = next_fits c.loop-rest.at c.loop-rest.rest.now (omega arith) (omega arith)
