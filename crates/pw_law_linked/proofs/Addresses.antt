-- Each function of a program is a piece of the text at its address in the map.
use Rattle.std.specs.Prelude.{ℕ, ◌≡◌, ◌+◌, ◌*◌, ◌%◌, ◌^◌, unwrap_or, Option, List, [], ◌∷◌, ◌++◌, map, length}
use Rattle.std.specs.List.{AllByRecursion}
use Rattle.std.specs.Map.{lookup}
use Rattle.std.specs.Str.{bytes_eq}
use Rattle.std.proofs.Common.{subst, sym, ap, refl, ◌∙◌}
use Rattle.pw_value.specs.Limits.{text_start}
use Rattle.pw_flow.specs.ValidFlow.{AreDistinct}
use Rattle.pw_object.specs.declared.object.Object.{Object}
use Rattle.pw_alloc.specs.declared.located.Located.{Located}
use Rattle.pw_link.specs.Layout.{Piece, piece_of, Placed, placed_from, text_of, data_of, data_begin, Standing, routine_pieces, function_site, global_site}
use Rattle.pw_link.specs.Linking.{function_of, global_of, linked}
use Rattle.pw_run_languages.specs.Programs.{Program}
use Rattle.pw_run_languages.specs.LawfulPrograms.{IsProgram}
use Rattle.pw_run_languages.specs.LinkingLaws.{compiled, AreObjectsOf, address_of}
use Rattle.pw_law_linked.specs.Standing.{IsFoundIn, pieces, AtItsAddress}
use Rattle.pw_law_linked.proofs.Text.{OrderStays, text_is, first_found}

-- ---- what the map says

map_functions : (text : List Placed) → map (λ f. (f.name, f.address)) (map function_of text) ≡ map function_site text
map_functions [] = refl
map_functions (q ∷ text) = ap (λ (rest : List (List ℕ × ℕ)). (q.piece.name, q.address) ∷ rest) (map_functions text)

map_globals : (begin : ℕ) (stood : List Standing) → map (λ g. (g.name, g.address)) (map (global_of begin) stood) ≡ map (global_site begin) stood
map_globals begin [] = refl
map_globals begin (s ∷ stood) = ap (λ (rest : List (List ℕ × ℕ)). (s.global.name, (begin + s.offset) % 2 ^ 32) ∷ rest) (map_globals begin stood)

-- the names with their addresses, in the order in which they are looked up
abbrev pub sites_of : List Object → List (List ℕ × ℕ)
sites_of objects = map function_site (text_of objects) ++ map (global_site (data_begin objects)) (data_of objects)

pub address_is : (objects : List Object) (stack : ℕ) (name : List ℕ) → address_of (linked objects stack) name ≡ unwrap_or (lookup (bytes_eq name) (sites_of objects)) 0
unfolding linked
address_is objects stack name =
    ap (λ (functions : List (List ℕ × ℕ)). unwrap_or (lookup (bytes_eq name) (functions ++ map (λ g. (g.name, g.address)) (map (global_of (data_begin objects)) (data_of objects)))) 0) (map_functions (text_of objects))
    ∙ ap (λ (globals : List (List ℕ × ℕ)). unwrap_or (lookup (bytes_eq name) (map function_site (text_of objects) ++ globals)) 0) (map_globals (data_begin objects) (data_of objects))

-- ---- the functions

abbrev pub HasAddress : List Object → ℕ → Placed → Type 0
HasAddress objects stack q = address_of (linked objects stack) q.piece.name ≡ q.address

pub addressed : (objects : List Object) (stack : ℕ) (qs : List Placed) → AllByRecursion (IsFoundIn (sites_of objects)) qs → AllByRecursion (HasAddress objects stack) qs
addressed objects stack [] h = tt
addressed objects stack (q ∷ qs) h = (address_is objects stack q.piece.name ∙ ap (λ (o : Option ℕ). unwrap_or o 0) h.0, addressed objects stack qs h.1)

each_at : (Q : Placed → Type 0) (objects : List Object) (stack at : ℕ) (ls : List Located) (rest : List Piece) → AllByRecursion (HasAddress objects stack) (placed_from at (pieces ls))
    → AllByRecursion Q (placed_from at (pieces ls ++ rest)) → AllByRecursion (AtItsAddress Q objects stack) ls
each_at Q objects stack at [] rest found h = tt
each_at Q objects stack at (l ∷ ls) rest found h =
    let p = piece_of (compiled l) in
    (subst (λ (a : ℕ). Q (record { address = a; piece = p })) (sym found.0) h.0, each_at Q objects stack (at + 4 * length p.words) ls rest found.1 h.1)

pub compiled_names : (ls : List Located) → map (λ p. p.name) (pieces ls) ≡ map (λ l. l.body.name) ls
compiled_names [] = refl
compiled_names (l ∷ ls) = ap (λ (names : List (List ℕ)). l.body.name ∷ names) (compiled_names ls)

pub each_function : OrderStays → (Q : Placed → Type 0) (p : Program) (functions : List Located) (objects : List Object) → IsProgram p → AreObjectsOf p functions objects
    → AreDistinct (map (λ l. l.body.name) functions) → AllByRecursion Q (text_of objects) → AllByRecursion (AtItsAddress Q objects p.stack) functions
each_function stays Q p functions objects is of distinct h =
    let text : text_of objects ≡ placed_from text_start (pieces functions ++ routine_pieces) = ap (placed_from text_start) (text_is stays p functions objects is of) in
    let globals = map (global_site (data_begin objects)) (data_of objects) in
    let names = subst AreDistinct (sym (compiled_names functions)) distinct in
    let found = subst (λ (text : List Placed). AllByRecursion (IsFoundIn (map function_site text ++ globals)) (placed_from text_start (pieces functions))) (sym text)
    (first_found globals text_start (pieces functions) routine_pieces names) in
    each_at Q objects p.stack text_start functions routine_pieces (addressed objects p.stack (placed_from text_start (pieces functions)) found)
    (subst (λ (text : List Placed). AllByRecursion Q text) text h)
