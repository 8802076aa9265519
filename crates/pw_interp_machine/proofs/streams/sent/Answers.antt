use Rattle.pw_interp_machine.proofs.Transferring.{written_stands}
use Rattle.pw_interp_machine.proofs.streams.sent.Goals as goal

pub returns : goal.returns
returns c main world w st end at = written_stands c.args.machine.now c.from.result st c.args.byte c.requires c.from.ensures at
