use Rattle.pw_law_checked.proofs.SmallModules.{module_words}
use Rattle.pw_law_checked.proofs.numbers.accepted_bodies_have_words.Goals as goal

pub returns : goal.returns
returns g = module_words
