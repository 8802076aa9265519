use Rattle.pw_law_pause.proofs.Roomier.{next_call}
use Rattle.pw_law_pause.proofs.laws.refused_calls_come_next.Goals as goal

pub returns : goal.returns
returns c = next_call
