use Rattle.std.proofs.Common.{◌≡◌, ◌++◌, drop, map}
use Rattle.std.specs.Prelude.{IfSome, string_bytes}
use Rattle.pw_io.specs.Files.{Keeps}
use Rattle.pw_store_sources.specs.Sources.{sources_among}
use Rattle.pw_store_sources.specs.Views.{named_text}
use Rattle.pw_store_sources.proofs.sources.sources_among.Given as goal

-- the sources so far, before those of the names that are left, are all; the store is as it was
abbrev pub invariant-loop-name : goal.invariant-loop-name
invariant-loop-name g l =
    let told = g.S.Store.told in
    record {
      read : IfSome (told l.fn.store) (λ t. map named_text l.all.items ++ sources_among t.files (drop l.name-index (map string_bytes l.names)) ≡ sources_among t.files (map string_bytes l.names));
      same : Keeps (told l.fn.store) (told l.store);
      count : g.S.Store.faults l.store ≡ g.S.Store.faults l.fn.store;
    }
