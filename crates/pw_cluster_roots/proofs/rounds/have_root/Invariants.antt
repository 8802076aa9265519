use Rattle.std.proofs.Common.{take}
use Rattle.pw_cluster_roots.specs.Rounds.{HaveAll}
use Rattle.pw_cluster_roots.proofs.rounds.have_root.Given as goal

abbrev pub invariant-loop-place : goal.invariant-loop-place
invariant-loop-place l = HaveAll l.roots (take l.place-index l.places) l.root
