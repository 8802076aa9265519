use Rattle.pw_law_linked.specs.Standing.{HasItsWords}
use Rattle.pw_law_linked.proofs.Addresses.{each_function}
use Rattle.pw_law_linked.proofs.functions_stand_at_their_addresses.Goals as goal

pub returns : goal.returns
returns c = λ memory p functions objects. each_function c.modules_stand_in_order.ensures.stay (λ q. HasItsWords memory objects p.stack q) p functions objects
