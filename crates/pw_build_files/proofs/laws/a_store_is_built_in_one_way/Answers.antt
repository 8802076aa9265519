use Rattle.pw_build_files.proofs.SeenLemmas.{one_seen}
use Rattle.pw_build_files.proofs.laws.a_store_is_built_in_one_way.Goals as goal

pub returns : goal.returns
returns c = one_seen c.files_are_seen_in_one_way.ensures c.a_store_has_one_build.ensures
