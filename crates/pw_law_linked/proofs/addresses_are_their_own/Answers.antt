use Rattle.pw_law_linked.proofs.Own.{addresses_own}
use Rattle.pw_law_linked.proofs.addresses_are_their_own.Goals as goal

pub returns : goal.returns
returns c = addresses_own c.modules_stand_in_order.ensures.stay
