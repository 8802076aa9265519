use Rattle.std.proofs.Common.{◌≡◌, ◌++◌, drop, map}
use Rattle.std.specs.Prelude.{IfSome, string_bytes}
use Rattle.pw_cpp_sources.specs.Sources.{texts_of}
use Rattle.pw_io.specs.Files.{Keeps}
use Rattle.pw_store_sources.specs.Headers.{headers_among}
use Rattle.pw_store_sources.proofs.headers.headers_among.Given as goal

-- the headers so far, before those of the names that are left, are all; the store is as it was
abbrev pub invariant-loop-name : goal.invariant-loop-name
invariant-loop-name g l =
    let told = g.S.Store.told in
    record {
      read : IfSome (told l.fn.store) (λ t. texts_of l.all.items ++ headers_among t.files (drop l.name-index (map string_bytes l.names)) ≡ headers_among t.files (map string_bytes l.names));
      same : Keeps (told l.fn.store) (told l.store);
      count : g.S.Store.faults l.store ≡ g.S.Store.faults l.fn.store;
    }
