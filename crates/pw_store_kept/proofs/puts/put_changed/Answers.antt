use Rattle.std.proofs.Common.{map}
use Rattle.pw_store_kept.specs.Files.{file_view, program_files}
use Rattle.pw_store_kept.proofs.PutLemmas.{put_stopped, put_then}
use Rattle.pw_store_kept.proofs.puts.put_changed.Goals as goal

pub returns-in-Ok-clause-put : goal.returns-in-Ok-clause-put
returns-in-Ok-clause-put g c =
    put_then (map file_view c.args.prepared.now.objects.items) (program_files c.args.prepared.now) c.put_program.result (g.S.Store.told c.args.store.now) _ _ (rw c.deref.ensures.value at c.in-Ok.ensures.put) c.put_program.ensures.put

pub returns-in-Err-clause-put : goal.returns-in-Err-clause-put
returns-in-Err-clause-put g c =
    put_stopped (map file_view c.args.prepared.now.objects.items) (program_files c.args.prepared.now) c.in-Err.error (g.S.Store.told c.args.store.now) _ (rw c.deref.ensures.value at c.in-Err.ensures.put)
