use Rattle.pw_law_build.proofs.Only.{exactly}
use Rattle.pw_law_build.proofs.refusals.a_store_is_built_exactly_where_it_can_be.Goals as goal

pub returns : goal.returns
returns c = exactly c.a_store_that_can_be_built_is_built.ensures c.genuine_objects_give_the_full_image.ensures c.what_is_built_can_be_built.ensures
