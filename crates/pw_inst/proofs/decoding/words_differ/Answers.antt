use Rattle.pw_inst.proofs.Inverse.{word_of-injective}
use Rattle.pw_inst.proofs.decoding.words_differ.Goals as goal

pub returns : goal.returns
returns c = word_of-injective
