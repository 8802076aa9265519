use Rattle.std.proofs.Common.{◌≡◌, ◌+◌, ◌<◌, length, false}
use Rattle.pw_cpp_lines.specs.Passing.{quoted}
use Rattle.pw_cpp_lines.proofs.quotes.quoted.Given as goal

-- what is left gives the answer
abbrev pub invariant-loop-rest : goal.invariant-loop-rest
invariant-loop-rest l =
    (quoted l.quote l.escaped l.last l.len l.rest ≡ quoted l.quote false 0 1 l.text) × (l.len + length l.rest ≡ length l.text + 1) × (0 < l.len)

abbrev pub decreases-loop-rest : goal.decreases-loop-rest
decreases-loop-rest l = length l.rest
