use Rattle.std.proofs.Common.{◌≡◌, length}
use Rattle.pw_webflow.specs.Direction.{register_of}
use Rattle.pw_debug.proofs.turning.register_of.Given as goal

abbrev pub invariant-loop-rest : goal.invariant-loop-rest
invariant-loop-rest l = register_of l.rest l.global ≡ register_of l.webs l.global

abbrev pub decreases-loop-rest : goal.decreases-loop-rest
decreases-loop-rest l = length l.rest
