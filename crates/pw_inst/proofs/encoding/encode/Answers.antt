use Rattle.pw_inst.proofs.Words.{decoded-word_of}
use Rattle.pw_inst.proofs.encoding.encode.Goals as goal

pub returns-clause-again : goal.returns-clause-again
returns-clause-again c = rw c.word.ensures (decoded-word_of c.args.inst c.requires)
