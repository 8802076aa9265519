use Rattle.pw_law_calls.proofs.Counted.{have_calls}
use Rattle.pw_law_calls.proofs.laws.stages_have_the_calls.Goals as goal

pub returns : goal.returns
returns c = have_calls c.a_call_is_noted.ensures
