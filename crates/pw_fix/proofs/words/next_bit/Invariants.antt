use Rattle.std.proofs.Common.{ℕ, ◌*◌, ◌<◌, ◌≤◌}
use Rattle.pw_fix.specs.Words.{HasBit}
use Rattle.pw_fix.proofs.words.next_bit.Given as goal

-- none of the words so far has one
abbrev pub invariant-loop-k : goal.invariant-loop-k
invariant-loop-k l = (i : ℕ) → l.from ≤ i → i < l.k * 64 → ¬ (HasBit l.words i)
