-- Each piece of a text is found at its address by its name.
use Rattle.std.specs.Prelude.{ℕ, ◌≡◌, ◌+◌, ◌*◌, List, [], ◌∷◌, ◌++◌, map, length}
use Rattle.std.specs.List.{AllByRecursion}
use Rattle.std.proofs.Common.{subst, sym, ap, refl}
use Rattle.pw_flow.specs.ValidFlow.{AreDistinct}
use Rattle.pw_link.specs.Layout.{Piece, placed_from, function_site}
use Rattle.pw_law_linked.specs.Standing.{IsFoundIn}
use Rattle.pw_law_linked.proofs.Entries.{names_in, IsEntry, entries_found}

abbrev pub names_of : List Piece → List (List ℕ)
names_of ps = map (λ p. p.name) ps

pub site_names : (at : ℕ) (ps : List Piece) → names_in (map function_site (placed_from at ps)) ≡ names_of ps
site_names at [] = refl
site_names at (p ∷ ps) = ap (λ (names : List (List ℕ)). p.name ∷ names) (site_names (at + 4 * length p.words) ps)

at_sites : (table : List (List ℕ × ℕ)) (at : ℕ) (ps : List Piece) → AllByRecursion (IsEntry table) (map function_site (placed_from at ps)) → AllByRecursion (IsFoundIn table) (placed_from at ps)
at_sites table at [] h = tt
at_sites table at (p ∷ ps) h = (h.0, at_sites table (at + 4 * length p.words) ps h.1)

pub all_found : (rest : List (List ℕ × ℕ)) (at : ℕ) (ps : List Piece) → AreDistinct (names_of ps) → AllByRecursion (IsFoundIn (map function_site (placed_from at ps) ++ rest)) (placed_from at ps)
all_found rest at ps distinct =
    let sites = map function_site (placed_from at ps) in
    at_sites (sites ++ rest) at ps (entries_found sites rest (subst AreDistinct (sym (site_names at ps)) distinct))
