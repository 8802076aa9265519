use Rattle.std.proofs.Common.{◌≡◌, ℕ, length, take}
use Rattle.std.specs.List.{list_any}
use Rattle.pw_flow.specs.Outline.{Outline}
use Rattle.pw_live.specs.Liveness.{is_live_in}
use Rattle.pw_live_fronts.specs.LiveFronts.{AreFronts}
use Rattle.pw_opt_dead.specs.Marks.{is_marked}
use Rattle.pw_opt_dead.proofs.marks.mark_end.Given as goal

abbrev pub invariant-loop-block : goal.invariant-loop-block
invariant-loop-block l = record {
  long : length l.live ≡ length l.fn.live;
  marks : (f : Outline) → AreFronts f l.fronts → (t : ℕ) → is_marked l.live t ≡ list_any (is_live_in f t) (take l.block-index l.next);
}
