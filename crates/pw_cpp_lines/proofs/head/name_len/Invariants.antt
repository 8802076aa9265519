use Rattle.std.proofs.Common.{◌≡◌, ◌+◌, length}
use Rattle.std.specs.List.{prefix_len}
use Rattle.pw_cpp_lines.specs.Heads.{is_name_byte}
use Rattle.pw_cpp_lines.proofs.head.name_len.Given as goal

-- the run is what was counted and the run of what is left
abbrev pub invariant-loop-rest : goal.invariant-loop-rest
invariant-loop-rest l =
    (prefix_len (is_name_byte l.quote) l.text ≡ l.len + prefix_len (is_name_byte l.quote) l.rest) × (l.len + length l.rest ≡ length l.text)

abbrev pub decreases-loop-rest : goal.decreases-loop-rest
decreases-loop-rest l = length l.rest
