use Rattle.std.proofs.Common.{ℕ, take}
use Rattle.std.specs.Prelude.{Contains}
use Rattle.pw_webs.proofs.parts.weights.Given as goal

abbrev pub invariant-loop-each : goal.invariant-loop-each
invariant-loop-each l = (reads writes : ℕ) → Contains (take l.each-index l.row) (l.global, reads, writes) → ⊥
