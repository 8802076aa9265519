use Rattle.pw_law_opt.proofs.Modules.{optimisation_keeps}
use Rattle.pw_law_opt.proofs.laws.optimisation_keeps_runs.Goals as goal

pub returns : goal.returns
returns c = optimisation_keeps c.longer_paths_add_nothing.ensures.live
