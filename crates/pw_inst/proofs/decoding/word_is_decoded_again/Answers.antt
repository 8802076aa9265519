use Rattle.pw_inst.proofs.Words.{decoded-word_of}
use Rattle.pw_inst.proofs.decoding.word_is_decoded_again.Goals as goal

pub returns : goal.returns
returns c = decoded-word_of
