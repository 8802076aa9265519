use Rattle.std.proofs.lemmas.Nat.{one_shl, and_mask}
use Rattle.pw_inst.proofs.fields.read.Goals as goal

pub returns-clause-value : goal.returns-clause-value
returns-clause-value c = rw (one_shl c.args.width 32 c.requires.narrow, and_mask)
