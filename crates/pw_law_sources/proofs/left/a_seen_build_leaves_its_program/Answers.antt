use Rattle.pw_law_sources.proofs.LeftLemmas.{program_left}
use Rattle.pw_law_sources.proofs.left.a_seen_build_leaves_its_program.Goals as goal

pub returns : goal.returns
returns c = program_left (record { object = c.built_files_are_seen.ensures.object; database = c.built_files_are_seen.ensures.database; image = c.built_files_are_seen.ensures.image }) c.what_builds_put_is_seen.ensures.all c.a_build_leaves_its_program.ensures
