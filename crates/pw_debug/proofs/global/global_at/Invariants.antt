use Rattle.std.proofs.Common.{Result, ℕ}
use Rattle.pw_debug.specs.Walk.{seen, start_of, WalksTo}
use Rattle.pw_debug.proofs.global.global_at.Given as goal

abbrev pub invariant-loop-value : goal.invariant-loop-value
invariant-loop-value l =
    (end : Result ℕ ℕ) → WalksTo (seen l.machine.core.memory l.functions l.frames l.object l.kind) l.at end → WalksTo (seen l.machine.core.memory l.functions l.frames l.object l.kind) (start_of l.machine.core) end

abbrev pub decreases-loop-value : goal.decreases-loop-value
decreases-loop-value l = l.at.stack
