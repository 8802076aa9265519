use Rattle.pw_law_sources.proofs.LeftLemmas.{phases_keep}
use Rattle.pw_law_sources.proofs.left.an_edit_that_keeps_phases_keeps_flows.Goals as goal

pub returns : goal.returns
returns c = phases_keep (record { object = c.built_files_are_seen.ensures.object; database = c.built_files_are_seen.ensures.database; image = c.built_files_are_seen.ensures.image })
