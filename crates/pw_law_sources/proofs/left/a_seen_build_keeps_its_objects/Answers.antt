use Rattle.pw_law_sources.proofs.LeftLemmas.{objects_left}
use Rattle.pw_law_sources.proofs.left.a_seen_build_keeps_its_objects.Goals as goal

pub returns : goal.returns
returns c = objects_left c.what_builds_put_is_seen.ensures.all c.a_build_keeps_its_objects.ensures
