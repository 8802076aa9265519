use Rattle.std.proofs.Common.{◌≡◌, ◌++◌, length, reverse}
use Rattle.pw_cpp_expand.proofs.expansion.put_in_front.Given as goal

-- the tokens that are left come in front of those at hand
abbrev pub invariant-loop-lexeme : goal.invariant-loop-lexeme
invariant-loop-lexeme l = l.pending ++ reverse l.tokens ≡ l.initial.pending ++ reverse l.initial.tokens

abbrev pub decreases-loop-lexeme : goal.decreases-loop-lexeme
decreases-loop-lexeme l = length l.tokens
