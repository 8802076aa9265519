use Rattle.pw_build_files.proofs.SeenLemmas.{genuine_seen}
use Rattle.pw_build_files.proofs.laws.genuine_objects_are_seen.Goals as goal

pub returns : goal.returns
returns c = genuine_seen (record { object = c.built_files_are_seen.ensures.object; database = c.built_files_are_seen.ensures.database; image = c.built_files_are_seen.ensures.image })
