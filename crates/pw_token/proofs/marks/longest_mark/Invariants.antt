use Rattle.std.proofs.Common.{◌≡◌, ◌≤◌, length, map}
use Rattle.pw_token.specs.Scanning.{longest_in}
use Rattle.pw_token.specs.Words.{all_marks, mark_text}
use Rattle.pw_token.proofs.marks.longest_mark.Given as goal

-- what is left of the table gives the answer
abbrev pub invariant-loop-rest : goal.invariant-loop-rest
invariant-loop-rest l =
    (longest_in l.longest (map mark_text l.rest) l.text ≡ longest_in 0 (map mark_text all_marks) l.text) × (l.longest ≤ length l.text)

abbrev pub decreases-loop-rest : goal.decreases-loop-rest
decreases-loop-rest l = length l.rest
