use Rattle.pw_law_sources.proofs.FirstLemmas.{refused_told, told_refused}
use Rattle.pw_law_sources.proofs.refused.the_first_refused_module_is_told.Goals as goal

pub returns : goal.returns
returns c = λ sources name refusal. (refused_told sources name refusal, told_refused sources name refusal)
