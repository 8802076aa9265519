use Rattle.std.proofs.Common.{◌≡◌, drop, map}
use Rattle.pw_store_kept.specs.Files.{file_view}
use Rattle.pw_store_kept.proofs.PutLemmas.{FilesSoFar}
use Rattle.pw_store_kept.proofs.puts.put_files.Given as goal

abbrev pub invariant-loop-file : goal.invariant-loop-file
invariant-loop-file g l =
    let told = g.S.Store.told in
    record {
      so_far : FilesSoFar (told l.fn.store) (map file_view l.files) (drop l.file-index (map file_view l.files)) (told l.store);
      count : g.S.Store.faults l.store ≡ g.S.Store.faults l.fn.store;
    }
