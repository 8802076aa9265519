use Rattle.pw_law_link.proofs.Ordered.{modules_in_order, modules_of_a_name, modules_stay}
use Rattle.pw_law_link.proofs.laws.modules_stand_in_order.Goals as goal

pub returns-clause-order : goal.returns-clause-order
returns-clause-order c = modules_in_order

pub returns-clause-names : goal.returns-clause-names
returns-clause-names c = modules_of_a_name

pub returns-clause-stay : goal.returns-clause-stay
returns-clause-stay c = modules_stay
