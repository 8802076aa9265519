-- A loop over two slices at once.
use Rattle.std.proofs.Common.{◌≡◌, ◌<◌, min, Option, Some, None, List, length, get_or, Bor}
use Rattle.std.proofs.iter.Yields.{fronts}
use Rattle.std.proofs.lemmas.Iterator.{zips}
use Rattle.std.proofs.lemmas.Slice.Zip.{zip_turn, zip_end}
use Rattle.std.specs.Iterator.{Yields}
use Rattle.std.specs.declared.iter.Zip.{Zip}
use Rattle.std.specs.declared.slice.Iter.{Iter}
use Rattle.std.specs.Iterator.Adapters.{zip_first, zip_second}
use Rattle.std.specs.Slice.Iter.{iter_rest}

-- where this turn's pair is in the slices
pub pair_at :
    {A B : Type 0} (s t u : Zip (Iter A) (Iter B)) (r : Option (Bor A × Bor B)) (ks : List A) (vs : List B) (xs : List (Bor A × Bor B)) (p : Bor A × Bor B)
    → Yields (zips fronts fronts) s xs t → r ≡ Some p → zips fronts fronts t r u
    → iter_rest (zip_first s) ≡ ks → iter_rest (zip_second s) ≡ vs
    → (length xs < length ks) × (length xs < length vs) × (p.0.now ≡ get_or ks (length xs) p.0.now) × (p.1.now ≡ get_or vs (length xs) p.1.now)
pair_at s t u r ks vs xs p y is steps first second =
    let z = zip_turn ks vs xs s t u r first second y p is steps in
    (z.0, z.1, z.2 p.0.now, z.3 p.1.now)

-- how many turns there were
pub pairs_ended :
    {A B : Type 0} (s t u : Zip (Iter A) (Iter B)) (r : Option (Bor A × Bor B)) (ks : List A) (vs : List B) (xs : List (Bor A × Bor B))
    → Yields (zips fronts fronts) s xs t → r ≡ None → zips fronts fronts t r u
    → iter_rest (zip_first s) ≡ ks → iter_rest (zip_second s) ≡ vs
    → length xs ≡ min (length ks) (length vs)
pairs_ended s t u r ks vs xs y is steps first second = zip_end ks vs xs s t u r first second y is steps
