use Rattle.pw_law_opt.proofs.Naming.{programs_stay}
use Rattle.pw_law_opt.proofs.laws.optimisation_keeps_programs.Goals as goal

pub returns : goal.returns
returns c = programs_stay c.optimisation_keeps_lawful.ensures
