use Rattle.pw_colour.proofs.Unique.{database_one}
use Rattle.pw_colour.proofs.laws.databases_are_one.Goals as goal

pub returns : goal.returns
returns c = database_one c.roots_are_one.ensures.one
