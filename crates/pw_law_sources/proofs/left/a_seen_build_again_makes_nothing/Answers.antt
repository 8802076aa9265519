use Rattle.pw_law_sources.proofs.LeftLemmas.{again_left}
use Rattle.pw_law_sources.proofs.left.a_seen_build_again_makes_nothing.Goals as goal

pub returns : goal.returns
returns c = again_left c.what_builds_put_is_seen.ensures.all c.a_build_again_makes_nothing.ensures.again
