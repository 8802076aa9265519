use Rattle.pw_where.proofs.Ends.{some_sight}
use Rattle.pw_where.proofs.laws.a_call_shows_something.Goals as goal

pub returns : goal.returns
returns c = λ image objects frames k core lawful. some_sight image objects frames k core lawful
