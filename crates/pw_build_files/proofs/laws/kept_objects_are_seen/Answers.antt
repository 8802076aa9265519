use Rattle.pw_build_files.proofs.SeenLemmas.{kept_same}
use Rattle.pw_build_files.proofs.laws.kept_objects_are_seen.Goals as goal

pub returns : goal.returns
returns c = λ files shown name is.
    kept_same (record { object = c.built_files_are_seen.ensures.object; database = c.built_files_are_seen.ensures.database; image = c.built_files_are_seen.ensures.image }) files shown is name
