-- Facts of the names in the lists that elements make.
use Rattle.std.proofs.Common.{◌≡◌, ℕ, zero, suc, ◌<◌, List, [], ◌∷◌, length, get_or, sym, subst, arith}
use Rattle.std.specs.List.{flat_map, AllByRecursion}
use Rattle.std.proofs.lemmas.List.Concat.{flat_map-cons}
use Rattle.pw_flow.proofs.Lists.{all_left, all_right}

-- a fact of each name in the lists that elements make, at one element
pub flat_at : {X : Type 0} (names : X → List (List ℕ)) (P : List ℕ → Type 0) (xs : List X) → AllByRecursion P (flat_map names xs) → (i : ℕ) (x : X) → i < length xs → x ≡ get_or xs i x → AllByRecursion P (names x)
flat_at names P [] all i x lt is = absurd (omega arith)
flat_at names P (y ∷ ys) all zero x lt is =
    let both = subst (λ (ns : List (List ℕ)). AllByRecursion P ns) (flat_map-cons names y ys) all in
    subst (λ z. AllByRecursion P (names z)) (sym is) (all_left P (names y) (flat_map names ys) both)
flat_at names P (y ∷ ys) all (suc i) x lt is =
    let both = subst (λ (ns : List (List ℕ)). AllByRecursion P ns) (flat_map-cons names y ys) all in
    flat_at names P ys (all_right P (names y) (flat_map names ys) both) i x (omega arith) is
