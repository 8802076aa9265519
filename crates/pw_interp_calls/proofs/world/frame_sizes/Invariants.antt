use Rattle.std.proofs.Common.{◌≡◌, take, map}
use Rattle.pw_interp_calls.proofs.world.frame_sizes.Given as goal

abbrev pub invariant-loop-frame : goal.invariant-loop-frame
invariant-loop-frame l = l.sizes.items ≡ map (λ f. f.1) (take l.frame-index l.frames)
