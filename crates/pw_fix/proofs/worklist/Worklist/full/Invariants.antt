use Rattle.std.proofs.Common.{ℕ, ◌<◌}
use Rattle.std.specs.Prelude.{Contains}
use Rattle.pw_fix.proofs.worklist.Worklist.full.Given as goal

-- the queue has the nodes so far
abbrev pub invariant-loop-node : goal.invariant-loop-node
invariant-loop-node l = record { below : (n : ℕ) → Contains l.queue.items n → n < l.node; all : (n : ℕ) → n < l.node → Contains l.queue.items n }
