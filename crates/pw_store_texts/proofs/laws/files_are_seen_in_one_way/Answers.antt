use Rattle.pw_store_texts.proofs.SeenLemmas.{seen-once}
use Rattle.pw_store_texts.proofs.laws.files_are_seen_in_one_way.Goals as goal

pub returns : goal.returns
returns c = seen-once c.sources_come_to_one.ensures
