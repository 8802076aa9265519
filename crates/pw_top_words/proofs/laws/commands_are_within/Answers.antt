use Rattle.pw_top_words.proofs.Within.{words_within}
use Rattle.pw_top_words.proofs.laws.commands_are_within.Goals as goal

pub returns : goal.returns
returns c = λ words command e. words_within words command e
