use Rattle.pw_law_build.proofs.Stores.{not_refused}
use Rattle.pw_law_build.proofs.refusals.a_store_that_can_be_built_is_built.Goals as goal

pub returns : goal.returns
returns c = not_refused c.accepted_modules_are_built.ensures c.genuine_objects_give_the_full_image.ensures
