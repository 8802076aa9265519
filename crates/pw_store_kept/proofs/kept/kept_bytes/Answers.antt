use Rattle.pw_store_kept.proofs.KeptLemmas.{bytes_kept}
use Rattle.pw_store_kept.proofs.kept.kept_bytes.Goals as goal

pub returns-clause-bytes : goal.returns-clause-bytes
returns-clause-bytes g c = bytes_kept (g.S.Store.told c.args.store.now) c.get.result c.args.name.now c.get.ensures.file
