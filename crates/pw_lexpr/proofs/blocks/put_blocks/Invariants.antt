use Rattle.std.proofs.Common.{◌≡◌}
use Rattle.pw_lexpr.specs.Placing.{put_all}
use Rattle.pw_lexpr.proofs.blocks.put_blocks.Given as goal

abbrev pub invariant-loop-numbered : goal.invariant-loop-numbered
invariant-loop-numbered l = l.places ≡ put_all l.yielded l.fn.places
