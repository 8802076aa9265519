-- The greatest of some numbers, one more at a time.
use Rattle.std.proofs.Common.{◌≡◌, ℕ, ◌+◌, ◌<◌, max, List, [], ◌∷◌, ◌++◌, length, map, take, get_or, refl, ap, ◌∙◌, arith}
use Rattle.std.proofs.lemmas.List.{take_more}
use Rattle.pw_types.specs.Layouts.{greatest}

pub greatest-append_one : (xs : List ℕ) (x : ℕ) → greatest (xs ++ x ∷ []) ≡ max (greatest xs) x
greatest-append_one [] x = omega arith
greatest-append_one (y ∷ ys) x = omega (arith, greatest-append_one ys x)

pub map-append_one : {A B : Type 0} (f : A → B) (xs : List A) (x : A) → map f (xs ++ x ∷ []) ≡ map f xs ++ f x ∷ []
map-append_one f [] x = refl
map-append_one f (y ∷ ys) x = ap (λ rest. f y ∷ rest) (map-append_one f ys x)

pub map-take_more :
    {A B : Type 0} (f : A → B) (xs : List A) (i : ℕ) (d : A) → i < length xs
    → map f (take (i + 1) xs) ≡ map f (take i xs) ++ f (get_or xs i d) ∷ []
map-take_more f xs i d within = ap (map f) (take_more xs i d within) ∙ map-append_one f (take i xs) (get_or xs i d)

pub greatest-take_more :
    {A : Type 0} (f : A → ℕ) (xs : List A) (i : ℕ) (d : A) → i < length xs
    → greatest (map f (take (i + 1) xs)) ≡ max (greatest (map f (take i xs))) (f (get_or xs i d))
greatest-take_more f xs i d within =
    ap greatest (map-take_more f xs i d within) ∙ greatest-append_one (map f (take i xs)) (f (get_or xs i d))
