use Rattle.pw_opt_order.specs.Order.{constants_rise, copies_rise}
use Rattle.pw_opt_order.proofs.laws.transfers_rise.Goals as goal

pub returns : goal.returns
returns c = record { constants = constants_rise; copies = copies_rise }
