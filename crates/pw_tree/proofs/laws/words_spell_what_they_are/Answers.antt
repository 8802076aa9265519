use Rattle.pw_tree.proofs.TokenWords.{tree-words}
use Rattle.pw_tree.proofs.laws.words_spell_what_they_are.Goals as goal

pub returns : goal.returns
returns c = tree-words
