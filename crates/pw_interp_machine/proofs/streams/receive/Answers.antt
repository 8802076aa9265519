use Rattle.pw_interp_machine.proofs.Transferring.{read_stands}
use Rattle.pw_interp_machine.proofs.streams.receive.Goals as goal

pub returns : goal.returns
returns c main world w st new end read at = read_stands c.args.machine.now c.word_read-word.result st new c.args.byte c.requires c.word_read-word.ensures read at
