use Rattle.std.proofs.Common.{rules}
use Rattle.pw_interp_todo.specs.Operands.{place_behind}
use Rattle.pw_interp_todo.proofs.LeadLaws.{branch_off, branch_on, leaves, then_more, then_stops}
use Rattle.pw_interp_operands.proofs.places.cond.Goals as goal

pub returns-in_err-chosen : goal.returns-in_err-chosen
unfolding place_behind
returns-in_err-chosen c ty x bound = then_stops _ c.tested.ensures c.in_err-chosen.was (search rules)

pub returns-then-chosen : goal.returns-then-chosen
unfolding place_behind
returns-then-chosen c ty x bound = then_more _ c.tested.ensures c.in_ok-chosen.was (branch_on _ c.if-chosen.true (leaves _))

pub returns-else-chosen : goal.returns-else-chosen
unfolding place_behind
returns-else-chosen c ty x bound = then_more _ c.tested.ensures c.in_ok-chosen.was (branch_off _ c.if-chosen.false (leaves _))
