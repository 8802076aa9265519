use Rattle.pw_law_build.proofs.Stores.{command_complete}
use Rattle.pw_law_build.proofs.refusals.the_command_is_complete.Goals as goal

pub returns : goal.returns
returns c = command_complete c.a_seen_store_that_can_be_built_is_built.ensures
