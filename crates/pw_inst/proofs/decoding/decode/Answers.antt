use Rattle.pw_inst.proofs.Found.{decoded-found}
use Rattle.pw_inst.proofs.Inverse.{decoded-none}
use Rattle.pw_inst.proofs.decoding.decode.Goals as goal

pub returns-clause-found : goal.returns-clause-found
returns-clause-found c = rw c.decode_by_opcode.ensures (decoded-found c.args.word c.ranges.word.fits)

pub returns-clause-none : goal.returns-clause-none
returns-clause-none c = rw c.decode_by_opcode.ensures (decoded-none c.args.word c.ranges.word.fits)
