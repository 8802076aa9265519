use Rattle.std.proofs.Common.{◌≡◌, ◌+◌, length}
use Rattle.std.specs.List.{prefix_len}
use Rattle.pw_token.specs.Bytes.{is_in}
use Rattle.pw_token.specs.declared.bytes.Class.TheVariants.{Word}
use Rattle.pw_cpp_lines.proofs.head.word_len.Given as goal

-- the run is what was counted and the run of what is left
abbrev pub invariant-loop-rest : goal.invariant-loop-rest
invariant-loop-rest l = (prefix_len (is_in Word) l.text ≡ l.len + prefix_len (is_in Word) l.rest) × (l.len + length l.rest ≡ length l.text)

abbrev pub decreases-loop-rest : goal.decreases-loop-rest
decreases-loop-rest l = length l.rest
