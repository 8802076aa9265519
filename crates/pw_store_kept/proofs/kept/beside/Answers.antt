use Rattle.pw_store_kept.proofs.KeptLemmas.{read_beside}
use Rattle.pw_store_kept.proofs.kept.beside.Goals as goal

pub returns-clause-tells : goal.returns-clause-tells
returns-clause-tells g c = read_beside (g.S.Store.told c.args.store.now) c.get.result c.args.name.now c.args.bytes.now c.get.ensures.file
