use Rattle.pw_law_sources.proofs.LeftLemmas.{edit_left}
use Rattle.pw_law_sources.proofs.left.an_edit_that_keeps_seen_flows_makes_nothing.Goals as goal

pub returns : goal.returns
returns c = edit_left c.what_builds_put_is_seen.ensures.all c.files_are_seen_in_one_way.ensures c.an_edit_that_keeps_flows_makes_nothing.ensures
