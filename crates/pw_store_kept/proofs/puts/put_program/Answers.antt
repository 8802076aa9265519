use Rattle.pw_store_modules.specs.FileNames.{database_name, image_name}
use Rattle.pw_store_kept.specs.Files.{one_if}
use Rattle.pw_store_kept.proofs.PutLemmas.{put_stopped, put_then}
use Rattle.pw_store_kept.proofs.puts.put_program.Goals as goal

pub returns-in-Ok-clause-put : goal.returns-in-Ok-clause-put
returns-in-Ok-clause-put g c =
    put_then (one_if c.args.prepared.now.database_changed database_name c.args.prepared.now.database.items) (one_if c.args.prepared.now.image_changed image_name c.args.prepared.now.image.items)
    c.put_if-in-Ok.result (g.S.Store.told c.args.store.now) _ _ (rw c.deref.ensures.value at c.in-Ok.ensures.put) (rw c.deref-in-Ok.ensures.value at c.put_if-in-Ok.ensures.put)

pub returns-in-Err-clause-put : goal.returns-in-Err-clause-put
returns-in-Err-clause-put g c =
    put_stopped (one_if c.args.prepared.now.database_changed database_name c.args.prepared.now.database.items) (one_if c.args.prepared.now.image_changed image_name c.args.prepared.now.image.items)
    c.in-Err.error (g.S.Store.told c.args.store.now) _ (rw c.deref.ensures.value at c.in-Err.ensures.put)
