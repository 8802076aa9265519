use Rattle.std.proofs.Common.{◌≡◌, take, map}
use Rattle.pw_interp_calls.proofs.world.framed_names.Given as goal

abbrev pub invariant-loop-frame : goal.invariant-loop-frame
invariant-loop-frame l = l.list ≡ map (λ f. f.0) (take l.frame-index l.frames)
