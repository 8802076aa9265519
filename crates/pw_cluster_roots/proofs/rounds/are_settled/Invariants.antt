use Rattle.std.proofs.Common.{ℕ, take}
use Rattle.std.specs.Prelude.{Contains}
use Rattle.pw_fix.specs.Row.{Holds}
use Rattle.pw_cluster_roots.proofs.rounds.are_settled.Given as goal

abbrev pub invariant-loop-place : goal.invariant-loop-place
invariant-loop-place l = (c : ℕ) → Contains (take l.place-index l.places) c → Holds l.settled c
