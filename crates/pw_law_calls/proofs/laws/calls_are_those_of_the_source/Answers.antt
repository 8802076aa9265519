use Rattle.pw_law_calls.proofs.Alike.{the_call}
use Rattle.pw_law_calls.proofs.laws.calls_are_those_of_the_source.Goals as goal

pub returns : goal.returns
returns c = the_call c.a_call_is_noted.ensures
