use Rattle.std.proofs.Common.{ℕ, take}
use Rattle.std.specs.Prelude.{Contains}
use Rattle.pw_graph.specs.CallGraph.{Writes}
use Rattle.pw_webs.proofs.parts.is_written.Given as goal

abbrev pub invariant-loop-place : goal.invariant-loop-place
invariant-loop-place l = (f : ℕ) → Contains (take l.place-index l.members) f → Writes l.graph f l.global → ⊥
