use Rattle.std.proofs.Common.{◌≡◌, ◌++◌, drop, map}
use Rattle.std.specs.Prelude.{string_bytes}
use Rattle.std.specs.List.{AllByRecursion}
use Rattle.pw_io.specs.Files.{Keeps}
use Rattle.pw_commands.proofs.NeededLemmas.{ReadSoFar}
use Rattle.pw_commands.proofs.kept.read_values.Given as goal

-- the values so far, with those of the modules that are left, are all; the store is as it was
abbrev pub invariant-loop-stem : goal.invariant-loop-stem
invariant-loop-stem g l =
    let told = g.S.Store.told in
    record {
      read : ReadSoFar g.K.Kept.stands (told l.fn.store) (map (λ stem. string_bytes stem ++ l.ending) l.modules) l.values.items (drop l.stem-index (map (λ stem. string_bytes stem ++ l.ending) l.modules));
      lawful : AllByRecursion g.K.Kept.lawful l.values.items;
      same : Keeps (told l.fn.store) (told l.store);
      count : g.S.Store.faults l.store ≡ g.S.Store.faults l.fn.store;
    }
