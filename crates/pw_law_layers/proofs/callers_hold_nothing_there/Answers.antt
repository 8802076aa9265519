use Rattle.pw_law_layers.proofs.Holding.{callers_hold_nothing}
use Rattle.pw_law_layers.proofs.callers_hold_nothing_there.Goals as goal

pub returns : goal.returns
returns c = callers_hold_nothing c.callers_leave_free_registers_alone.ensures
