use Rattle.pw_law_placed.proofs.Calling.{calls_follow}
use Rattle.pw_law_placed.proofs.calls_follow.Goals as goal

pub returns : goal.returns
returns c = λ p d ls x to f args ok base sound served calling edge. calls_follow c.callers_leave_free_registers_alone.ensures p d base sound ls f to args x ok served calling edge
