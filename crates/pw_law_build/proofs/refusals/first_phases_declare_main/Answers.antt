use Rattle.pw_law_build.proofs.Builds.{phases_declare}
use Rattle.pw_law_build.proofs.refusals.first_phases_declare_main.Goals as goal

pub returns : goal.returns
returns c = phases_declare c.flow_graphs_declare_main.ensures
