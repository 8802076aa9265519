-- Each global object of a linked program has its place behind the beginning of the data for its address.
use Rattle.std.specs.Prelude.{ℕ, ◌≡◌, ◌≢◌, ◌+◌, ◌%◌, ◌^◌, ◌<◌, ◌≤◌, unwrap_or, Option, List, [], ◌∷◌, ◌++◌, map}
use Rattle.std.specs.List.{AllByRecursion, flat_map, sum_by}
use Rattle.std.proofs.Common.{arith, subst, sym, ap, refl, ◌∙◌}
use Rattle.std.proofs.lemmas.List.{map-append, append-nil}
use Rattle.std.proofs.lemmas.List.Sums.{sum_by-cons}
use Rattle.pw_value.specs.Limits.{text_start}
use Rattle.pw_files.specs.Rising.{IsRising}
use Rattle.pw_flow.specs.declared.flow.FlowGlobal.{FlowGlobal}
use Rattle.pw_flow.specs.ValidFlow.{AreDistinct, global_room}
use Rattle.pw_object.specs.declared.object.Object.{Object}
use Rattle.pw_alloc.specs.declared.located.Located.{Located}
use Rattle.pw_milli.specs.Library.{routines}
use Rattle.pw_link.specs.Layout as link
use Rattle.pw_link.specs.Layout.{Piece, Standing, standing_from, text_of, pieces_of, data_of, data_begin, data_size, function_site, global_site}
use Rattle.pw_link.specs.Linking.{linked}
use Rattle.pw_run_languages.specs.Programs.{Program, functions_of, globals_of}
use Rattle.pw_run_languages.specs.LawfulPrograms.{IsProgram}
use Rattle.pw_run_languages.specs.LinkingLaws.{AreObjectsOf, AreNamesApart, address_of}
use Rattle.pw_law_linked.proofs.Entries.{names_in, IsEntry, entries_found}
use Rattle.pw_law_linked.proofs.Pieces.{names_of, site_names}
use Rattle.pw_law_linked.proofs.Text.{OrderStays, text_is}
use Rattle.pw_law_linked.proofs.Addresses.{sites_of, address_is}
use Rattle.pw_law_linked.proofs.Own.{right_distinct, right_all, both_all, Differ, joined_distinct, names_are, text_distinct}

abbrev pub global_names : List FlowGlobal → List (List ℕ)
global_names gs = map (λ g. g.name) gs

-- ---- names

-- what stands in front has other names
differ_behind : (xs ys : List (List ℕ)) → AreDistinct (xs ++ ys) → Differ ys xs
differ_behind [] ys h = tt
differ_behind (x ∷ xs) ys h = (right_all (λ n. n ≢ x) xs ys h.0, differ_behind xs ys h.1)

differ_from_last : (xs ys others : List (List ℕ)) → Differ (xs ++ ys) others → Differ ys others
differ_from_last xs ys [] h = tt
differ_from_last xs ys (other ∷ others) h = (right_all (λ x. x ≢ other) xs ys h.0, differ_from_last xs ys others h.1)

pub globals_are : OrderStays → (p : Program) (functions : List Located) (objects : List Object) → IsProgram p → AreObjectsOf p functions objects → link.globals_of objects ≡ globals_of p
globals_are stays p functions objects is of =
    ap (λ (os : List Object). flat_map (λ o. o.globals) os) (stays objects (subst IsRising (sym of.modules) is.order)) ∙ of.globals

-- functions, routines and objects have different names
all_distinct : (p : Program) (functions : List Located) → AreNamesApart p → map (λ l. l.body.name) functions ≡ map (λ f. f.name) (functions_of p)
    → AreDistinct ((map (λ f. f.name) (functions_of p) ++ map (λ r. r.0) routines) ++ global_names (globals_of p))
all_distinct p functions apart named =
    let own = map (λ f. f.name) (functions_of p) in
    let others = map (λ r. r.0) routines in
    let globals = global_names (globals_of p) in
    let behind = right_distinct others (own ++ globals) apart in
    joined_distinct (own ++ others) globals (subst AreDistinct (names_are p functions named) (text_distinct p functions apart named)) (right_distinct own globals behind)
    (both_all (λ y. AllByRecursion (λ x. x ≢ y) globals) own others (differ_behind own globals behind) (differ_from_last own globals others (differ_behind others (own ++ globals) apart)))

stood_names : (begin at : ℕ) (gs : List FlowGlobal) → names_in (map (global_site begin) (standing_from at gs)) ≡ global_names gs
stood_names begin at [] = refl
stood_names begin at (g ∷ gs) = ap (λ (names : List (List ℕ)). g.name ∷ names) (stood_names begin (at + global_room g) gs)

sites_distinct : OrderStays → (p : Program) (functions : List Located) (objects : List Object) → IsProgram p → AreObjectsOf p functions objects → AreNamesApart p
    → map (λ l. l.body.name) functions ≡ map (λ f. f.name) (functions_of p) → AreDistinct (names_in (sites_of objects))
sites_distinct stays p functions objects is of apart named =
    let begin = data_begin objects in
    let text = site_names text_start (pieces_of objects) ∙ (ap names_of (text_is stays p functions objects is of) ∙ names_are p functions named) in
    let stood = stood_names begin 0 (link.globals_of objects) ∙ ap global_names (globals_are stays p functions objects is of) in
    let all : names_in (sites_of objects) ≡ (map (λ f. f.name) (functions_of p) ++ map (λ r. r.0) routines) ++ global_names (globals_of p) =
    map-append (λ (e : List ℕ × ℕ). e.0) (map function_site (text_of objects)) (map (global_site begin) (data_of objects))
    ∙ (λ i. text i ++ stood i) in
    subst AreDistinct (sym all) (all_distinct p functions apart named)

-- ---- addresses

abbrev pub HasItsAddress : List Object → ℕ → Standing → Type 0
HasItsAddress objects stack s = address_of (linked objects stack) s.global.name ≡ data_begin objects + s.offset

last_entries : (P : List ℕ × ℕ → Type 0) (xs ys : List (List ℕ × ℕ)) → AllByRecursion P (xs ++ ys) → AllByRecursion P ys
last_entries P [] ys h = h
last_entries P (x ∷ xs) ys h = last_entries P xs ys h.1

no_wrap : (begin at end : ℕ) → at ≤ end → begin + end < 2 ^ 32 → (begin + at) % 2 ^ 32 ≡ begin + at
no_wrap begin at end le small = omega (arith, le, small)

each_address : (objects : List Object) (stack end at : ℕ) (gs : List FlowGlobal) → data_begin objects + end < 2 ^ 32 → at + sum_by global_room gs ≤ end
    → AllByRecursion (IsEntry (sites_of objects)) (map (global_site (data_begin objects)) (standing_from at gs)) → AllByRecursion (HasItsAddress objects stack) (standing_from at gs)
each_address objects stack end at [] small fits h = tt
each_address objects stack end at (g ∷ gs) small fits h =
    let count = sum_by-cons global_room g gs in (
      address_is objects stack g.name ∙ (ap (λ (o : Option ℕ). unwrap_or o 0) h.0 ∙ no_wrap (data_begin objects) at end (omega (arith, count, fits)) small),
      each_address objects stack end (at + global_room g) gs small (omega (arith, count, fits)) h.1,
    )

pub globals_addressed : OrderStays → (p : Program) (functions : List Located) (objects : List Object) → IsProgram p → AreObjectsOf p functions objects → AreNamesApart p
    → map (λ l. l.body.name) functions ≡ map (λ f. f.name) (functions_of p) → data_begin objects + data_size objects < 2 ^ 32 → AllByRecursion (HasItsAddress objects p.stack) (data_of objects)
globals_addressed stays p functions objects is of apart named small =
    let table = sites_of objects in
    let found = subst (λ (t : List (List ℕ × ℕ)). AllByRecursion (IsEntry t) table) (append-nil table) (entries_found table [] (sites_distinct stays p functions objects is of apart named)) in
    each_address objects p.stack (data_size objects) 0 (link.globals_of objects) small (omega arith)
    (last_entries (IsEntry table) (map function_site (text_of objects)) (map (global_site (data_begin objects)) (data_of objects)) found)
