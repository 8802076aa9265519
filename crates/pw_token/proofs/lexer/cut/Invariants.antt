use Rattle.std.proofs.Common.{length, ◌-◌, ◌≤◌}
use Rattle.pw_token.specs.Limits.{text_limit}
use Rattle.pw_token.proofs.LexLaws.{Lexing}
use Rattle.pw_token.proofs.lexer.cut.Given as goal

-- the text is cut up to the place
abbrev pub invariant-loop-at : goal.invariant-loop-at
invariant-loop-at l = Lexing l.text l.at l.line_start l.tokens.items × (length l.text ≤ text_limit)

abbrev pub decreases-loop-at : goal.decreases-loop-at
decreases-loop-at l = length l.text - l.at
