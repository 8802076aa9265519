use Rattle.std.proofs.Common.{refl}
use Rattle.pw_store_modules.specs.Modules.{modules_of}
use Rattle.pw_law_build.proofs.refusals.a_seen_store_that_can_be_built_is_built.Goals as goal

pub returns : goal.returns
returns c = λ files opts fault can genuine comes.
    c.a_store_that_can_be_built_is_built.ensures comes.0 opts fault (can (modules_of comes.0) (comes.0, comes.1, refl)) (c.genuine_objects_are_seen.ensures files comes.0 comes.1 genuine) comes.2
