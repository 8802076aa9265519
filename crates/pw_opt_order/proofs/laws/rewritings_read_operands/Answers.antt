use Rattle.pw_opt_order.specs.Reads.{constants_read, copies_read}
use Rattle.pw_opt_order.proofs.laws.rewritings_read_operands.Goals as goal

pub returns : goal.returns
returns c = record { constants = constants_read; copies = copies_read }
