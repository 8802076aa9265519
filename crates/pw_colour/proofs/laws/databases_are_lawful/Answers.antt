use Rattle.pw_colour.proofs.Start.{database_lawful}
use Rattle.pw_colour.proofs.laws.databases_are_lawful.Goals as goal

pub returns : goal.returns
returns c = database_lawful c.few_registers_are_saved.ensures.few
