use Rattle.pw_image.proofs.WritingLemmas.{table_is}
use Rattle.pw_image.proofs.writing.write_payload.Goals as goal

pub push_names-requires : goal.push_names-requires
push_names-requires c = table_is _ _ c.requires.count c.requires.table
