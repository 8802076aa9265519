use Rattle.std.proofs.Common.{◌≡◌, take}
use Rattle.pw_graph.proofs.calls.narrowed.Given as goal

abbrev pub invariant-loop-place : goal.invariant-loop-place
invariant-loop-place l = l.narrow ≡ take l.place-index l.places
