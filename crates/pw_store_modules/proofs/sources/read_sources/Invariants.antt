use Rattle.std.proofs.Common.{◌≡◌, ◌++◌, drop, map}
use Rattle.std.specs.Prelude.{IfSome, string_bytes}
use Rattle.pw_io.specs.Files.{Keeps}
use Rattle.pw_store_modules.specs.Reading.{sources_of}
use Rattle.pw_store_modules.specs.Views.{source}
use Rattle.pw_store_modules.proofs.sources.read_sources.Given as goal

-- the modules so far, before those of the files that are left, are all modules; the store is as it was
abbrev pub invariant-loop-file : goal.invariant-loop-file
invariant-loop-file g l =
    let told = g.S.Store.told in
    record {
      read : IfSome (told l.fn.store) (λ t. map source l.modules.items ++ sources_of t.files (drop l.file-index (map string_bytes l.files)) ≡ sources_of t.files (map string_bytes l.files));
      same : Keeps (told l.fn.store) (told l.store);
      count : g.S.Store.faults l.store ≡ g.S.Store.faults l.fn.store;
    }
