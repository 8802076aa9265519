use Rattle.pw_flow.specs.ValidFlow.{IsValid}
use Rattle.pw_law_complete.proofs.Phases.{phases_each}
use Rattle.pw_law_complete.proofs.first_phases_are_lawful.Goals as goal

pub returns : goal.returns
returns c = phases_each IsValid c.flow_graphs_are_lawful.ensures
