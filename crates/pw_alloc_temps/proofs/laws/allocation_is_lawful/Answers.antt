use Rattle.pw_alloc_temps.proofs.Lawful.{allocated_lawful}
use Rattle.pw_alloc_temps.proofs.laws.allocation_is_lawful.Goals as goal

pub returns : goal.returns
returns c = allocated_lawful
