use Rattle.std.proofs.Common.{ap, ◌∙◌}
use Rattle.pw_token.proofs.WordLaws.{found_starting}
use Rattle.pw_token.specs.Words.{all_keywords, keyword_text, starting_with, with_text}
use Rattle.pw_token.proofs.symbol.Keyword.with_text.Goals as goal

pub loop-rest-init : goal.loop-rest-init
loop-rest-init c =
    ap (λ xs. with_text keyword_text xs c.args.text.now) (c.keywords_from-rest.ensures ∙ ap (λ b. starting_with keyword_text b all_keywords) c.byte_at.ensures.value)
    ∙ found_starting keyword_text all_keywords c.args.text.now
