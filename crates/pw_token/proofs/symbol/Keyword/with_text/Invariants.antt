use Rattle.std.proofs.Common.{◌≡◌, length}
use Rattle.pw_token.specs.Words.{with_text, keyword_text, all_keywords}
use Rattle.pw_token.proofs.symbol.Keyword.with_text.Given as goal

-- what is left of the table gives the answer
abbrev pub invariant-loop-rest : goal.invariant-loop-rest
invariant-loop-rest l = with_text keyword_text l.rest l.text ≡ with_text keyword_text all_keywords l.text

abbrev pub decreases-loop-rest : goal.decreases-loop-rest
decreases-loop-rest l = length l.rest
