use Rattle.std.proofs.Common.{◌≡◌, ◌+◌, ◌-◌, length, drop}
use Rattle.pw_token.specs.Scanning.{comment_end}
use Rattle.pw_token.proofs.literals.comment_len.Given as goal

-- what is left gives the answer
abbrev pub invariant-loop-rest : goal.invariant-loop-rest
invariant-loop-rest l =
    (comment_end l.count l.rest ≡ comment_end 2 (drop 2 l.text)) × (l.count + length l.rest ≡ 2 + (length l.text - 2))

abbrev pub decreases-loop-rest : goal.decreases-loop-rest
decreases-loop-rest l = length l.rest
