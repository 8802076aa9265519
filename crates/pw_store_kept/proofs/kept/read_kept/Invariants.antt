use Rattle.std.proofs.Common.{◌≡◌}
use Rattle.std.specs.Prelude.{IfSome}
use Rattle.std.specs.List.{AllByRecursion}
use Rattle.pw_io.specs.Files.{Keeps}
use Rattle.pw_object.specs.Object.{IsObject}
use Rattle.pw_store_kept.proofs.KeptLemmas.{KeptSoFar}
use Rattle.pw_store_kept.proofs.kept.read_kept.Given as goal

abbrev pub invariant-loop-which : goal.invariant-loop-which
invariant-loop-which g l =
    let told = g.S.Store.told in
    record {
      so_far : KeptSoFar (told l.fn.store) l.modules l.which-index l.kept.items;
      lawful : AllByRecursion (λ found. IfSome found IsObject) l.kept.items;
      same : Keeps (told l.fn.store) (told l.store);
      count : g.S.Store.faults l.store ≡ g.S.Store.faults l.fn.store;
    }
