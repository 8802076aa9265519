use Rattle.std.proofs.Common.{◌≡◌, ◌+◌, length}
use Rattle.std.specs.List.{prefix_len}
use Rattle.pw_token.specs.Bytes.{is_in}
use Rattle.pw_token.proofs.bytes.run_of.Given as goal

-- the run is what was counted and the run of what is left
abbrev pub invariant-loop-rest : goal.invariant-loop-rest
invariant-loop-rest l =
    (prefix_len (is_in l.class) l.text ≡ l.count + prefix_len (is_in l.class) l.rest) × (l.count + length l.rest ≡ length l.text)

abbrev pub decreases-loop-rest : goal.decreases-loop-rest
decreases-loop-rest l = length l.rest
