-- The numbers of the functions so far, and the names of the objects so far, with those of one more.
use Rattle.std.proofs.Common.{ℕ, ◌+◌, ◌<◌, ◌≡◌, refl, sym, ap, ◌∙◌, List, [], ◌∷◌, ◌++◌, length, map, take, get_or}
use Rattle.std.specs.List.{flat_map}
use Rattle.std.proofs.lemmas.List.{map_more}
use Rattle.std.proofs.lemmas.Grind.{flat_map-append, common_steps}
use Rattle.std.proofs.Common.{arith}
use Rattle.pw_cmean.specs.Worlds as worlds
use Rattle.pw_interp_world.specs.Names.{number_among}
use Rattle.pw_interp_world.specs.Views.{view_part, view_callable, view_callables}
use Rattle.pw_interp_world.specs.declared.program.Part.{Part}
use Rattle.pw_interp_world.specs.declared.program.Callable.{Callable}

map_push : (f : worlds.Callable → ℕ) (xs : List worlds.Callable) (x : worlds.Callable) → map f (xs ++ x ∷ []) ≡ map f xs ++ f x ∷ []
map_push f [] x = refl
map_push f (y ∷ ys) x = ap (λ zs. f y ∷ zs) (map_push f ys x)

pub numbers_more : (fs : List worlds.Callable) (xs : List Callable) (i : ℕ) (x : Callable) → i < length xs → x ≡ get_or xs i x
    → map (λ f. number_among fs f.name) (view_callables (take (i + 1) xs)) ≡ map (λ f. number_among fs f.name) (view_callables (take i xs)) ++ number_among fs x.name ∷ []
numbers_more fs xs i x h is =
    ap (map (λ f. number_among fs f.name)) (map_more view_callable xs i x h)
    ∙ (map_push (λ f. number_among fs f.name) (view_callables (take i xs)) (view_callable (get_or xs i x))
    ∙ ap (λ (y : Callable). map (λ f. number_among fs f.name) (view_callables (take i xs)) ++ number_among fs y.name ∷ []) (sym is))

flat_push : (f : worlds.ProgramModule → List (List ℕ)) (xs : List worlds.ProgramModule) (x : worlds.ProgramModule) → flat_map f (xs ++ x ∷ []) ≡ flat_map f xs ++ f x
flat_push f xs x = grind (arith, common_steps, flat_map-append f xs (x ∷ []))

-- one module more
pub modules_more : (f : worlds.ProgramModule → List (List ℕ)) (xs : List Part) (i : ℕ) (x : Part) → i < length xs → x ≡ get_or xs i x
    → flat_map f (map view_part (take (i + 1) xs)) ≡ flat_map f (map view_part (take i xs)) ++ f (view_part x)
modules_more f xs i x h is =
    ap (flat_map f) (map_more view_part xs i x h)
    ∙ (flat_push f (map view_part (take i xs)) (view_part (get_or xs i x))
    ∙ ap (λ (y : Part). flat_map f (map view_part (take i xs)) ++ f (view_part y)) (sym is))
