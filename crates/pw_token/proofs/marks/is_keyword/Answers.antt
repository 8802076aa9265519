use Rattle.std.proofs.Common.{ap, ◌∙◌, is_some}
use Rattle.pw_token.proofs.WordLaws.{found_among}
use Rattle.pw_token.specs.Words.{all_keywords, is_keyword, keyword_of, keyword_text}
use Rattle.pw_token.proofs.marks.is_keyword.Goals as goal

pub returns : goal.returns
unfolding keyword_of is_keyword
returns c = c.is_some.ensures ∙ ap is_some c.with_text.ensures ∙ found_among keyword_text all_keywords c.args.word.now
