use Rattle.pw_law_analysis.proofs.Composition.{composes}
use Rattle.pw_law_analysis.proofs.owed.analyses_compose.Goals as goal

pub returns : goal.returns
returns c = composes c.soundness_rests_on_relations.ensures c.traffic_rests_on_relations.ensures
