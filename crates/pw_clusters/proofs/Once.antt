-- Names that rise stand once.
use Rattle.std.proofs.Common.{◌≡◌, ℕ, zero, suc, List, [], ◌∷◌, map, refl, sym, ap, subst, ◌∙◌}
use Rattle.std.specs.Prelude.{Option, Some, None, slice_get}
use Rattle.std.proofs.lemmas.Option.{same_Some}
use Rattle.pw_files.specs.Rising.{IsRising, IsRisingBehind}
use Rattle.pw_files.proofs.ByteOrder.{not_behind}
use Rattle.pw_files.proofs.Standing.{Has, has_map}
use Rattle.pw_graph.proofs.Lists.{has_at}

pub map_same : {X : Type 0} (xs : List X) → map (λ x. x) xs ≡ xs
map_same [] = refl
map_same {X} (x ∷ xs) = ap (λ (ys : List X). x ∷ ys) (map_same xs)

behind_once : {X : Type 0} (key : X → List ℕ) (before : Option (List ℕ)) (xs : List X) → IsRisingBehind before (map key xs) → (i j : ℕ) (x y : X) → slice_get xs i ≡ Some x → slice_get xs j ≡ Some y → key x ≡ key y → i ≡ j
behind_once key before [] up i j x y ex ey e = absurd cc
behind_once key before (z ∷ xs) up zero zero x y ex ey e = refl
behind_once key before (z ∷ xs) up zero (suc j) x y ex ey e =
    let same : z ≡ x = same_Some z x ex in
    absurd (not_behind (key z) (map key xs) up.1 (subst (λ k. Has k (map key xs)) (sym e ∙ sym (ap key same)) (has_map key y xs (has_at xs j y ey))))
behind_once key before (z ∷ xs) up (suc i) zero x y ex ey e =
    let same : z ≡ y = same_Some z y ey in
    absurd (not_behind (key z) (map key xs) up.1 (subst (λ k. Has k (map key xs)) (e ∙ sym (ap key same)) (has_map key x xs (has_at xs i x ex))))
behind_once key before (z ∷ xs) up (suc i) (suc j) x y ex ey e = ap suc (behind_once key (Some (key z)) xs up.1 i j x y ex ey e)

pub once_there : {X : Type 0} (key : X → List ℕ) (xs : List X) → IsRising (map key xs) → (i j : ℕ) (x y : X) → slice_get xs i ≡ Some x → slice_get xs j ≡ Some y → key x ≡ key y → i ≡ j
once_there key xs up i j x y ex ey e = behind_once key None xs up i j x y ex ey e
