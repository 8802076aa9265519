use Rattle.std.proofs.Common.{Ok, Err, arith, refl, ◌∙◌, map, drop}
use Rattle.pw_store_modules.proofs.ModuleLemmas.{mapped_rest}
use Rattle.pw_store_kept.specs.Files.{file_view}
use Rattle.pw_store_kept.proofs.KeptLemmas.{mapped_none}
use Rattle.pw_store_kept.proofs.PutLemmas.{files_end, files_start, files_stop, files_turn, put_one}
use Rattle.pw_store_kept.proofs.puts.put_files.Goals as goal

pub loop-file-init : goal.loop-file-init
loop-file-init g c = record { so_far = files_start (g.S.Store.told c.args.store.now) (map file_view c.args.files.now); count = refl }

pub loop-file-preserved : goal.loop-file-preserved
loop-file-preserved g c = record {
  so_far = files_turn (g.S.Store.told c.args.store.now) (g.S.Store.told c.loop-file.store) _ (map file_view c.args.files.now) _ _ (file_view c.file-item.result)
      c.loop-file.invariant.so_far (mapped_rest file_view c.args.files.now c.loop-file.file-index c.file-item.result (omega arith) c.file-item.is)
      (rw c.as_str.ensures.value at rw c.deref.ensures.value at (put_one (Ok tt) (g.S.Store.told c.loop-file.store) _ _ _ c.in-Ok.ensures.ok tt tt));
  count = c.in-Ok.ensures.cause ∙ c.loop-file.invariant.count;
}

pub returns-in-Err-clause-put : goal.returns-in-Err-clause-put
returns-in-Err-clause-put g c =
    files_stop c.in-Err.error (g.S.Store.told c.args.store.now) (g.S.Store.told c.loop-file.store) _ (map file_view c.args.files.now) _ _ (file_view c.file-item.result)
    c.loop-file.invariant.so_far (mapped_rest file_view c.args.files.now c.loop-file.file-index c.file-item.result (omega arith) c.file-item.is)
    (rw c.as_str.ensures.value at rw c.deref.ensures.value at (put_one (Err c.in-Err.error) (g.S.Store.told c.loop-file.store) _ _ _ tt c.in-Err.ensures.failed c.in-Err.ensures.no_memory))

pub returns-clause-put : goal.returns-clause-put
returns-clause-put g c =
    files_end (g.S.Store.told c.args.store.now) (g.S.Store.told c.loop-file.store) (map file_view c.args.files.now) (drop c.loop-file.file-index (map file_view c.args.files.now)) c.loop-file.invariant.so_far
    (mapped_none file_view c.args.files.now c.loop-file.file-index (omega arith))
