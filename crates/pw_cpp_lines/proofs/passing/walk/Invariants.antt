use Rattle.std.proofs.Common.{◌≤◌, ◌-◌, ℕ, length}
use Rattle.pw_cpp_lines.specs.Walking.{AreUnclosed, Walks}
use Rattle.pw_cpp_lines.proofs.passing.walk.Given as goal

-- steps lead to the place, and no quote is known not to close that does
abbrev pub invariant-loop-len : goal.invariant-loop-len
invariant-loop-len l = (l.end ≤ length l.text) × ((n : ℕ) × Walks l.passed l.text l.at n l.end) × AreUnclosed l.text l.end l.unclosed

abbrev pub decreases-loop-len : goal.decreases-loop-len
decreases-loop-len l = length l.text - l.end
