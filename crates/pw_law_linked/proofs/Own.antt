-- No function of a linked program begins inside another, and none has another's address.
use Rattle.std.specs.Prelude.{ℕ, zero, suc, ◌≡◌, ◌≢◌, ◌+◌, ◌*◌, ◌<◌, ◌≤◌, ◌⊎◌, List, [], ◌∷◌, ◌++◌, map, length, Contains}
use Rattle.std.specs.List.{AllByRecursion}
use Rattle.std.proofs.Common.{arith, subst, sym, ap, refl, ◌∙◌, get_or, inl, inr}
use Rattle.std.proofs.lemmas.List.{map-append}
use Rattle.std.proofs.lemmas.List.Elements.{Contains-append_left, Contains-append_right, Contains-append_cases}
use Rattle.pw_value.specs.Limits.{text_start}
use Rattle.pw_value.specs.ProgramNames.{library_functions}
use Rattle.pw_flow.specs.ValidFlow.{AreDistinct}
use Rattle.pw_object.specs.declared.object.Object.{Object}
use Rattle.pw_alloc.specs.declared.located.Located.{Located}
use Rattle.pw_milli.specs.Library.{routines}
use Rattle.pw_link.specs.Layout.{Piece, piece_of, routine_piece, routine_pieces, Placed, placed_from, text_of, data_of, data_begin, pieces_of, global_site}
use Rattle.pw_link.specs.Linking.{linked}
use Rattle.pw_run_languages.specs.Programs.{Program, functions_of, globals_of, names_of}
use Rattle.pw_run_languages.specs.Addresses.{AreLawful}
use Rattle.pw_run_languages.specs.LawfulPrograms.{IsProgram}
use Rattle.pw_run_languages.specs.LinkingLaws.{compiled, AreObjectsOf, AreNamesApart, address_of}
use Rattle.pw_law_code.specs.LinkedAddresses.{linked_addresses}
use Rattle.pw_law_linked.specs.Standing.{BeginsOutside, pieces, AtItsAddress, ItsAddressIsItsOwn}
use Rattle.pw_law_linked.proofs.Pieces.{all_found}
use Rattle.pw_law_linked.proofs.Text.{OrderStays, text_is}
use Rattle.pw_law_linked.proofs.Addresses.{HasAddress, addressed, compiled_names, each_function}
use Rattle.pw_law_linked.proofs.Apart.{all_apart}

-- ---- different names in another order

pub right_all : (P : List ℕ → Type 0) (xs ys : List (List ℕ)) → AllByRecursion P (xs ++ ys) → AllByRecursion P ys
right_all P [] ys h = h
right_all P (x ∷ xs) ys h = right_all P xs ys h.1

left_all : (P : List ℕ → Type 0) (xs ys : List (List ℕ)) → AllByRecursion P (xs ++ ys) → AllByRecursion P xs
left_all P [] ys h = tt
left_all P (x ∷ xs) ys h = (h.0, left_all P xs ys h.1)

pub both_all : (P : List ℕ → Type 0) (xs ys : List (List ℕ)) → AllByRecursion P xs → AllByRecursion P ys → AllByRecursion P (xs ++ ys)
both_all P [] ys h k = k
both_all P (x ∷ xs) ys h k = (h.0, both_all P xs ys h.1 k)

pub left_distinct : (xs ys : List (List ℕ)) → AreDistinct (xs ++ ys) → AreDistinct xs
left_distinct [] ys h = tt
left_distinct (x ∷ xs) ys h = (left_all (λ n. n ≢ x) xs ys h.0, left_distinct xs ys h.1)

pub right_distinct : (xs ys : List (List ℕ)) → AreDistinct (xs ++ ys) → AreDistinct ys
right_distinct [] ys h = h
right_distinct (x ∷ xs) ys h = right_distinct xs ys h.1

-- the names of the second list are none of the first
abbrev pub Differ : List (List ℕ) → List (List ℕ) → Type 0
Differ xs ys = AllByRecursion (λ y. AllByRecursion (λ x. x ≢ y) xs) ys

with_first : (x : List ℕ) (xs ys : List (List ℕ)) → AllByRecursion (λ y. y ≢ x) ys → Differ xs ys → Differ (x ∷ xs) ys
with_first x xs [] others h = tt
with_first x xs (y ∷ ys) others h = (((λ e. others.0 (sym e)), h.0), with_first x xs ys others.1 h.1)

no_first : (ys : List (List ℕ)) → Differ [] ys
no_first [] = tt
no_first (y ∷ ys) = (tt, no_first ys)

differ : (xs ys : List (List ℕ)) → AreDistinct (xs ++ ys) → Differ xs ys
differ [] ys h = no_first ys
differ (x ∷ xs) ys h = with_first x xs ys (right_all (λ n. n ≢ x) xs ys h.0) (differ xs ys h.1)

pub joined_distinct : (ys xs : List (List ℕ)) → AreDistinct ys → AreDistinct xs → Differ xs ys → AreDistinct (ys ++ xs)
joined_distinct [] xs one two h = two
joined_distinct (y ∷ ys) xs one two h = (both_all (λ n. n ≢ y) ys xs one.0 h.0, joined_distinct ys xs one.1 two h.1)

-- ---- the pieces of the text have different names

routine_names : (rs : List (List ℕ × List ℕ)) → map (λ p. p.name) (map routine_piece rs) ≡ map (λ r. r.0) rs
routine_names [] = refl
routine_names (r ∷ rs) = ap (λ (names : List (List ℕ)). r.0 ∷ names) (routine_names rs)

pub names_are : (p : Program) (functions : List Located) → map (λ l. l.body.name) functions ≡ map (λ f. f.name) (functions_of p)
    → map (λ q. q.name) (pieces functions ++ routine_pieces) ≡ map (λ f. f.name) (functions_of p) ++ map (λ r. r.0) routines
names_are p functions named =
    map-append (λ (q : Piece). q.name) (pieces functions) routine_pieces
    ∙ (ap (λ (names : List (List ℕ)). names ++ map (λ q. q.name) routine_pieces) (compiled_names functions ∙ named)
    ∙ ap (λ (names : List (List ℕ)). map (λ f. f.name) (functions_of p) ++ names) (routine_names routines))

pub text_distinct : (p : Program) (functions : List Located) → AreNamesApart p → map (λ l. l.body.name) functions ≡ map (λ f. f.name) (functions_of p)
    → AreDistinct (map (λ q. q.name) (pieces functions ++ routine_pieces))
text_distinct p functions apart named =
    let own = map (λ f. f.name) (functions_of p) in
    let globals = map (λ g. g.name) (globals_of p) in
    let others = map (λ r. r.0) routines in
    let behind = right_distinct others (own ++ globals) apart in
    let differs : Differ others own = left_all (λ y. AllByRecursion (λ x. x ≢ y) others) own globals (differ others (own ++ globals) apart) in
    subst AreDistinct (sym (names_are p functions named)) (joined_distinct own others (left_distinct own globals behind) (left_distinct others (own ++ globals) apart) differs)

-- ---- places by names

-- a piece of a name, with what holds of all
record Found (P : Placed → Type 0) (name : List ℕ) : Type 0 where
  placed : Placed
  is : placed.piece.name ≡ name
  holds : P placed

found_at : (P : Placed → Type 0) (name : List ℕ) (at : ℕ) (ps : List Piece) → Contains (map (λ p. p.name) ps) name → AllByRecursion P (placed_from at ps) → Found P name
found_at P name at [] c all = absurd (omega (arith, c.1))
found_at P name at (p ∷ ps) c all = by c.0 c.1 c.2 (λ there. found_at P name (at + 4 * length p.words) ps there all.1)
  where
    by : (k : ℕ) → k < length (map (λ (p : Piece). p.name) (p ∷ ps)) → get_or (map (λ (p : Piece). p.name) (p ∷ ps)) k name ≡ name → (Contains (map (λ (p : Piece). p.name) ps) name → Found P name) → Found P name
    by zero lt e later = record { placed = record { address = at; piece = p }; is = e; holds = all.0 }
    by (suc k) lt e later = later (k, omega (arith, lt), e)

library_there : (name : List ℕ) → Contains library_functions name → Contains (map (λ r. r.0) routines) name
library_there name c = by c.0 c.1 c.2
  where
    by : (k : ℕ) → k < length library_functions → get_or library_functions k name ≡ name → Contains (map (λ r. r.0) routines) name
    by zero lt e = (0, omega arith, e)
    by (suc zero) lt e = (1, omega arith, e)
    by (suc (suc zero)) lt e = (2, omega arith, e)
    by (suc (suc (suc k))) lt e = absurd (omega (arith, lt))

name_there : (p : Program) (f : List ℕ) → Contains (names_of p) f → Contains (map (λ f. f.name) (functions_of p) ++ map (λ r. r.0) routines) f
name_there p f c =
    let own = map (λ f. f.name) (functions_of p) in
    elim (Contains-append_cases library_functions own f c) [
      | inl library ↦ Contains-append_right own (map (λ r. r.0) routines) f (library_there f library)
      | inr there ↦ Contains-append_left own (map (λ r. r.0) routines) f there
    ]

-- ---- the functions

zipped : (P Q : Placed → Type 0) (qs : List Placed) → AllByRecursion P qs → AllByRecursion Q qs → AllByRecursion (λ q. P q × Q q) qs
zipped P Q [] p q = tt
zipped P Q (x ∷ qs) p q = ((p.0, q.0), zipped P Q qs p.1 q.1)

shifted : (n : List ℕ) (names : List (List ℕ)) (ls : List Located) → AllByRecursion (λ l. Contains names l.body.name) ls → AllByRecursion (λ l. Contains (n ∷ names) l.body.name) ls
shifted n names [] h = tt
shifted n names (l ∷ ls) h = ((suc h.0.0, omega (arith, h.0.1), h.0.2), shifted n names ls h.1)

own_names : (ls : List Located) → AllByRecursion (λ l. Contains (map (λ l. l.body.name) ls) l.body.name) ls
own_names [] = tt
own_names (l ∷ ls) = ((0, omega arith, refl), shifted l.body.name (map (λ l. l.body.name) ls) ls (own_names ls))

in_program : (names : List (List ℕ)) (ls : List Located) → AllByRecursion (λ l. Contains names l.body.name) ls → AllByRecursion (λ l. Contains (library_functions ++ names) l.body.name) ls
in_program names [] h = tt
in_program names (l ∷ ls) h = (Contains-append_right library_functions names l.body.name h.0, in_program names ls h.1)

-- no piece of the text begins inside
abbrev pub StandsAlone : List Object → Placed → Type 0
StandsAlone objects s = AllByRecursion (BeginsOutside s) (text_of objects)

-- so no function of the program begins inside
pub outside : (p : Program) (objects : List Object) (s : Placed) → AllByRecursion (HasAddress objects p.stack) (text_of objects)
    → ((f : List ℕ) → Contains (names_of p) f → Contains (map (λ q. q.name) (pieces_of objects)) f) → StandsAlone objects s → (f : List ℕ) → Contains (names_of p) f
    → (address_of (linked objects p.stack) f ≤ s.address) ⊎ (s.address + 4 * length s.piece.words ≤ address_of (linked objects p.stack) f)
outside p objects s addresses names alone f c =
    let q = found_at (λ q. HasAddress objects p.stack q × BeginsOutside s q) f text_start (pieces_of objects) (names f c) (zipped (HasAddress objects p.stack) (BeginsOutside s) (text_of objects) addresses alone) in
    let at : address_of (linked objects p.stack) f ≡ q.placed.address = ap (address_of (linked objects p.stack)) (sym q.is) ∙ q.holds.0 in
    elim q.holds.1 [
      | inl below ↦ inl (omega (arith, at, below))
      | inr above ↦ inr (omega (arith, at, above))
    ]

own_by : (p : Program) (objects : List Object) (behind : List ℕ → ℕ → ℕ) (l : Located) → AreLawful p (linked_addresses objects p.stack behind)
    → AllByRecursion (HasAddress objects p.stack) (text_of objects) → ((f : List ℕ) → Contains (names_of p) f → Contains (map (λ q. q.name) (pieces_of objects)) f)
    → Contains (names_of p) l.body.name → AtItsAddress (StandsAlone objects) objects p.stack l → ItsAddressIsItsOwn p objects l
own_by p objects behind l lawful addresses names there alone = record {
  there = there;
  own = λ f c e. lawful.function_own f l.body.name c there e;
  inside = outside p objects (record { address = address_of (linked objects p.stack) l.body.name; piece = piece_of (compiled l) }) addresses names alone;
}

all_own : (p : Program) (objects : List Object) (behind : List ℕ → ℕ → ℕ) (ls : List Located) → AreLawful p (linked_addresses objects p.stack behind)
    → AllByRecursion (HasAddress objects p.stack) (text_of objects) → ((f : List ℕ) → Contains (names_of p) f → Contains (map (λ q. q.name) (pieces_of objects)) f)
    → AllByRecursion (λ l. Contains (names_of p) l.body.name) ls → AllByRecursion (AtItsAddress (StandsAlone objects) objects p.stack) ls → AllByRecursion (ItsAddressIsItsOwn p objects) ls
all_own p objects behind [] lawful addresses names there alone = tt
all_own p objects behind (l ∷ ls) lawful addresses names there alone =
    (own_by p objects behind l lawful addresses names there.0 alone.0, all_own p objects behind ls lawful addresses names there.1 alone.1)

-- each piece has its address in the map, and each function of the program is one of them
pub text_addresses : OrderStays → (p : Program) (functions : List Located) (objects : List Object) → IsProgram p → AreObjectsOf p functions objects → AreNamesApart p
    → map (λ l. l.body.name) functions ≡ map (λ f. f.name) (functions_of p) → AllByRecursion (HasAddress objects p.stack) (text_of objects)
text_addresses stays p functions objects is of apart named =
    let text = text_is stays p functions objects is of in
    let globals = map (global_site (data_begin objects)) (data_of objects) in
    let distinct : AreDistinct (map (λ q. q.name) (pieces_of objects)) = subst (λ (ps : List Piece). AreDistinct (map (λ q. q.name) ps)) (sym text) (text_distinct p functions apart named) in
    addressed objects p.stack (text_of objects) (all_found globals text_start (pieces_of objects) distinct)

pub text_names : OrderStays → (p : Program) (functions : List Located) (objects : List Object) → IsProgram p → AreObjectsOf p functions objects
    → map (λ l. l.body.name) functions ≡ map (λ f. f.name) (functions_of p) → (f : List ℕ) → Contains (names_of p) f → Contains (map (λ q. q.name) (pieces_of objects)) f
text_names stays p functions objects is of named f c =
    subst (λ (names : List (List ℕ)). Contains names f) (sym (ap (λ (ps : List Piece). map (λ q. q.name) ps) (text_is stays p functions objects is of) ∙ names_are p functions named)) (name_there p f c)

pub addresses_own : OrderStays → (p : Program) (functions : List Located) (objects : List Object) (behind : List ℕ → ℕ → ℕ) → IsProgram p → AreObjectsOf p functions objects → AreNamesApart p
    → map (λ l. l.body.name) functions ≡ map (λ f. f.name) (functions_of p) → AreLawful p (linked_addresses objects p.stack behind) → AllByRecursion (ItsAddressIsItsOwn p objects) functions
addresses_own stays p functions objects behind is of apart named lawful =
    let own = map (λ f. f.name) (functions_of p) in
    let first = left_distinct own (map (λ r. r.0) routines) (subst AreDistinct (names_are p functions named) (text_distinct p functions apart named)) in
    let there = in_program own functions (subst (λ (names : List (List ℕ)). AllByRecursion (λ l. Contains names l.body.name) functions) named (own_names functions)) in
    all_own p objects behind functions lawful (text_addresses stays p functions objects is of apart named) (text_names stays p functions objects is of named) there
    (each_function stays (StandsAlone objects) p functions objects is of (subst AreDistinct (sym named) first) (all_apart text_start (pieces_of objects)))
