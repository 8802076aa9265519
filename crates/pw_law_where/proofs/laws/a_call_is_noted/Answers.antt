use Rattle.pw_law_where.proofs.Traces.{call_noted}
use Rattle.pw_law_where.proofs.laws.a_call_is_noted.Goals as goal

pub returns : goal.returns
returns c = call_noted
