use Rattle.pw_law_sources.proofs.LeftLemmas.{whole_left}
use Rattle.pw_law_sources.proofs.left.a_seen_build_leaves_the_whole_program.Goals as goal

pub returns : goal.returns
returns c = whole_left (record { object = c.built_files_are_seen.ensures.object; database = c.built_files_are_seen.ensures.database; image = c.built_files_are_seen.ensures.image }) c.what_builds_put_is_seen.ensures.all c.genuine_objects_are_seen.ensures c.a_build_leaves_the_whole_program.ensures
