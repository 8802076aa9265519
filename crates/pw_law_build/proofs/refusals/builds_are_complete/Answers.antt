use Rattle.pw_law_build.proofs.Stores.{complete}
use Rattle.pw_law_build.proofs.refusals.builds_are_complete.Goals as goal

pub returns : goal.returns
returns c = complete c.a_seen_store_that_can_be_built_is_built.ensures
