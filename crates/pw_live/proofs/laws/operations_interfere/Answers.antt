use Rattle.pw_live.proofs.Beside.{written, held}
use Rattle.pw_live.proofs.laws.operations_interfere.Goals as goal

pub returns : goal.returns
returns c = record { written = written; held = held }
