use Rattle.std.proofs.Common.{◌≡◌, ℕ, false, length, vec_len}
use Rattle.pw_opt_dead.specs.Marks.{is_marked}
use Rattle.pw_opt_dead.proofs.Walking.{BlockWalk}
use Rattle.pw_opt_dead.proofs.dead.live_blocks.Given as goal

abbrev pub invariant-loop-block : goal.invariant-loop-block
invariant-loop-block l = record {
  walk : BlockWalk l.quiet.flow.now l.outline l.fn.blocks l.left l.new.items;
  none : (t : ℕ) → is_marked l.room.live.items t ≡ false;
  long : vec_len l.room.live ≡ l.outline.temps;
}

abbrev pub decreases-loop-block : goal.decreases-loop-block
decreases-loop-block l = length l.left
