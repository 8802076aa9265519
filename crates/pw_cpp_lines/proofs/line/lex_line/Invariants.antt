use Rattle.std.proofs.Common.{◌≤◌, ◌-◌, length}
use Rattle.pw_cpp_lines.proofs.Cutting.{IsCut}
use Rattle.pw_cpp_lines.proofs.line.lex_line.Given as goal

-- the line is cut up to the place
abbrev pub invariant-loop-tokens : goal.invariant-loop-tokens
invariant-loop-tokens l = (l.end ≤ length l.text) × IsCut l.text l.at l.tokens l.end

abbrev pub decreases-loop-tokens : goal.decreases-loop-tokens
decreases-loop-tokens l = length l.text - l.end
