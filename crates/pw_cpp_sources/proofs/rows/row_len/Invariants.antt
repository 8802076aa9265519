use Rattle.std.proofs.Common.{◌≡◌, ◌+◌, length}
use Rattle.pw_cpp_sources.specs.Rows.{row_len}
use Rattle.pw_cpp_sources.proofs.rows.row_len.Given as goal

-- the row is what was counted and what is left of it
abbrev pub invariant-loop-rest : goal.invariant-loop-rest
invariant-loop-rest l = (row_len l.next l.tokens ≡ l.len + row_len l.next l.rest) × (l.len + length l.rest ≡ length l.tokens)

abbrev pub decreases-loop-rest : goal.decreases-loop-rest
decreases-loop-rest l = length l.rest
