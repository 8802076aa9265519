use Rattle.pw_law_checked.proofs.Constants.{constants_words}
use Rattle.pw_law_checked.proofs.numbers.constants_of_words_are_words.Goals as goal

pub returns : goal.returns
returns g = constants_words
