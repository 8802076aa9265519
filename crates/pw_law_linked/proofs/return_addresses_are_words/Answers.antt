use Rattle.pw_law_linked.proofs.Words.{returns_words}
use Rattle.pw_law_linked.proofs.return_addresses_are_words.Goals as goal

pub returns : goal.returns
returns c = returns_words
