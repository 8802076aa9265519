-- The linker's addresses are lawful for the run of lines.
use Rattle.std.proofs.Common.{◌≡◌, ◌≢◌, inl, inr, ℕ, zero, suc, ◌+◌, ◌*◌, ◌%◌, ◌^◌, ◌≤◌, ◌<◌, Bool, true, false, ◌&&◌, Option, None, Some, List, [], ◌∷◌, ◌++◌, map, length, get_or, refl, sym, ap, subst, ◌∙◌, arith}
use Rattle.std.specs.Prelude.{Contains, nat_lt, unwrap_or}
use Rattle.std.specs.List.{AllByRecursion, flat_map}
use Rattle.std.specs.Map.{lookup}
use Rattle.std.specs.Str.{bytes_eq}
use Rattle.std.proofs.lemmas.Bool.{ltb-true}
use Rattle.std.proofs.lemmas.List.{map-append}
use Rattle.std.proofs.lemmas.List.Elements.{Contains-append_left, Contains-append_right, Contains-append_cases}
use Rattle.pw_value.specs.Limits.{text_start}
use Rattle.pw_value.specs.ProgramNames.{library_functions}
use Rattle.pw_files.specs.Rising.{IsRising}
use Rattle.pw_flow.specs.declared.flow.FlowGlobal.{FlowGlobal}
use Rattle.pw_flow.specs.declared.flow.FlowFn.{FlowFn}
use Rattle.pw_flow.specs.ValidFlow.{AreDistinct}
use Rattle.pw_flow.proofs.Once.{distinct_right}
use Rattle.pw_db.specs.declared.database.Directives.{Directives}
use Rattle.pw_webflow.specs.Direction.{directed}
use Rattle.pw_alloc.specs.declared.located.Located.{Located}
use Rattle.pw_select.specs.Selection.{selected}
use Rattle.pw_inst.specs.InstructionTable.{word_of}
use Rattle.pw_delay.specs.declared.items.Word.{Word}
use Rattle.pw_delay.specs.declared.items.Item.{Item}
use Rattle.pw_delay.specs.declared.items.Item.TheVariants.{Plain}
use Rattle.pw_delay.specs.Items.{slotted}
use Rattle.pw_delay.specs.Filling.{compares, filled}
use Rattle.pw_delay.specs.Placement.{words_from, mark_at, laid, placed}
use Rattle.pw_delay.proofs.Keeping.{parts_alone}
use Rattle.pw_object.specs.declared.object.Object.{Object}
use Rattle.pw_milli.specs.Library.{routines}
use Rattle.pw_value.specs.Names.{is_before}
use Rattle.pw_link.specs.Layout.{in_order, Piece, piece_of, routine_piece, routine_pieces, function_pieces, pieces_of, Placed, placed_from, text_of, word_count, Standing, standing_from, data_of, data_size, data_begin, stack_end, function_site, global_site, address_in}
use Rattle.pw_flow.specs.ValidFlow.{global_room}
use Rattle.pw_link.specs.Layout as link
use Rattle.pw_link.specs.Linking.{function_of, global_of, size_fault, linked}
use Rattle.pw_law_link.proofs.Ordered.{modules_stay}
use Rattle.pw_law_link.proofs.Lawful.{Sized, sized}
use Rattle.pw_run_languages.specs.Programs.{Program, functions_of, globals_of, names_of}
use Rattle.pw_run_languages.specs.LawfulPrograms.{IsProgram}
use Rattle.pw_run_languages.specs.Direction.{directed_by, directed_functions}
use Rattle.pw_run_languages.specs.Serving.{AllServe}
use Rattle.pw_run_languages.specs.Addresses.{AreLawful}
use Rattle.pw_run_languages.specs.CodeStands.{is_long}
use Rattle.pw_run_languages.specs.SelectionLaws.{arranged}
use Rattle.pw_run_languages.specs.LinkingLaws.{compiled, AreObjectsOf, AreNamesApart, address_of}
use Rattle.pw_law_code.specs.LinkedAddresses.{linked_addresses}
use Rattle.pw_law_code.proofs.NamedAddresses.{piece_names, function_found, any_named, one_function, behind_functions, global_names, offset_of, global_found, Stands, global_stands, globals_apart, name_there, others_before}

-- ---- the modules stand in order already

order_stays : (p : Program) (functions : List Located) (objects : List Object) → IsProgram p → AreObjectsOf p functions objects → in_order objects ≡ objects
order_stays p functions objects is of = modules_stay objects (subst IsRising (sym of.modules) is.order)

-- ---- the functions

flat_map_map : (objects : List Object) → function_pieces objects ≡ map piece_of (flat_map (λ o. o.functions) objects)
flat_map_map [] = refl
flat_map_map (o ∷ objects) =
    ap (λ (rest : List Piece). map piece_of o.functions ++ rest) (flat_map_map objects)
    ∙ sym (map-append piece_of o.functions (flat_map (λ o. o.functions) objects))

-- the functions with places as pieces
abbrev pub pieces : List Located → List Piece
pieces ls = map piece_of (map compiled ls)

compiled_names : (ls : List Located) → piece_names (pieces ls) ≡ map (λ l. l.body.name) ls
compiled_names [] = refl
compiled_names (l ∷ ls) = ap (λ (names : List (List ℕ)). l.body.name ∷ names) (compiled_names ls)

pub served_names : (d : List (List ℕ × Directives)) (fs : List FlowFn) (ls : List Located) → AllServe (map (directed_by d) fs) ls → map (λ l. l.body.name) ls ≡ map (λ f. f.name) fs
unfolding directed
served_names d [] [] h = refl
served_names d [] (l ∷ ls) h = absurd h
served_names d (f ∷ fs) [] h = absurd h
served_names d (f ∷ fs) (l ∷ ls) h = λ i. (h.0.body i).name ∷ served_names d fs ls h.1 i

routine_piece_names : (rs : List (List ℕ × List ℕ)) → piece_names (map routine_piece rs) ≡ map (λ r. r.0) rs
routine_piece_names [] = refl
routine_piece_names (r ∷ rs) = ap (λ (names : List (List ℕ)). r.0 ∷ names) (routine_piece_names rs)

pub pieces_are : (p : Program) (functions : List Located) (objects : List Object) → IsProgram p → AreObjectsOf p functions objects → pieces_of objects ≡ pieces functions ++ routine_pieces
pieces_are p functions objects is of =
    ap (λ (os : List Object). function_pieces os ++ routine_pieces) (order_stays p functions objects is of)
    ∙ ap (λ (ps : List Piece). ps ++ routine_pieces) (flat_map_map objects ∙ ap (map piece_of) of.code)

-- the pieces have the names of the program's functions, of the library's and of the routines
pub names_are : (p : Program) (d : List (List ℕ × Directives)) (functions : List Located) (objects : List Object) → IsProgram p → AllServe (directed_functions p d) functions → AreObjectsOf p functions objects
    → piece_names (pieces_of objects) ≡ map (λ f. f.name) (functions_of p) ++ map (λ r. r.0) routines
names_are p d functions objects is serve of =
    ap piece_names (pieces_are p functions objects is of)
    ∙ map-append (λ (q : Piece). q.name) (pieces functions) routine_pieces
    ∙ (λ i. (compiled_names functions ∙ served_names d (functions_of p) functions serve) i ++ routine_piece_names routines i)

globals_are : (p : Program) (functions : List Located) (objects : List Object) → IsProgram p → AreObjectsOf p functions objects → link.globals_of objects ≡ globals_of p
globals_are p functions objects is of = ap (λ (os : List Object). flat_map (λ o. o.globals) os) (order_stays p functions objects is of) ∙ of.globals

-- so does the map, and it has the program's global objects
mapped_names : (at : ℕ) (ps : List Piece) → map (λ f. f.name) (map function_of (placed_from at ps)) ≡ piece_names ps
mapped_names at [] = refl
mapped_names at (q ∷ ps) = ap (λ (rest : List (List ℕ)). q.name ∷ rest) (mapped_names (at + 4 * length q.words) ps)

mapped_globals : (begin at : ℕ) (gs : List FlowGlobal) → map (λ g. g.name) (map (global_of begin) (standing_from at gs)) ≡ map (λ g. g.name) gs
mapped_globals begin at [] = refl
mapped_globals begin at (g ∷ gs) = ap (λ (rest : List (List ℕ)). g.name ∷ rest) (mapped_globals begin (at + global_room g) gs)

pub map_names_functions : (p : Program) (d : List (List ℕ × Directives)) (functions : List Located) (objects : List Object) → IsProgram p → AllServe (directed_functions p d) functions → AreObjectsOf p functions objects
    → map (λ f. f.name) (linked objects p.stack).functions ≡ map (λ f. f.name) (functions_of p) ++ map (λ r. r.0) routines
unfolding linked
map_names_functions p d functions objects is serve of = mapped_names text_start (pieces_of objects) ∙ names_are p d functions objects is serve of

pub map_names_globals : (p : Program) (functions : List Located) (objects : List Object) → IsProgram p → AreObjectsOf p functions objects
    → map (λ g. g.name) (linked objects p.stack).globals ≡ map (λ g. g.name) (globals_of p)
unfolding linked
map_names_globals p functions objects is of =
    mapped_globals (data_begin objects) 0 (link.globals_of objects) ∙ ap (map (λ (g : FlowGlobal). g.name)) (globals_are p functions objects is of)

-- ---- each piece has words

-- selected code begins with two words, of which the first stays where it is
two_words : (l : Located) → (w v : Word) × (rest : List Item) × (slotted (selected l) ≡ Plain w ∷ Plain v ∷ rest)
unfolding selected
two_words l = (_, _, _, refl)

has_words : (l : Located) → 0 < length (placed (selected l)).words
unfolding placed laid
has_words l =
    let h = two_words l in
    let long = is_long (selected l) in
    let first : arranged (selected l) ≡ Plain h.0 ∷ filled (compares h.0.inst) (Plain h.1 ∷ h.2) =
    ap (filled false) h.3 ∙ parts_alone false (Plain h.0 ∷ []) (Plain h.1 ∷ h.2) refl in
    subst (λ (items : List Item). 0 < length (map (λ (w : Word). word_of w.inst) (words_from long (mark_at long 0 items) 0 items))) (sym first) (omega arith)

compiled_words : (ls : List Located) → AllByRecursion (λ p. 0 < length p.words) (pieces ls)
compiled_words [] = tt
compiled_words (l ∷ ls) = (has_words l, compiled_words ls)

abbrev some_words : List (List ℕ × List ℕ) → Bool
some_words [] = true
some_words (r ∷ rest) = nat_lt 0 (length r.1) && some_words rest

routine_words : (rs : List (List ℕ × List ℕ)) → some_words rs ≡ true → AllByRecursion (λ p. 0 < length p.words) (map routine_piece rs)
routine_words [] e = tt
routine_words (r ∷ rest) e = by (nat_lt 0 (length r.1)) refl e (routine_words rest)
  where
    by : (b : Bool) → nat_lt 0 (length r.1) ≡ b → (b && some_words rest) ≡ true → (some_words rest ≡ true → AllByRecursion (λ p. 0 < length p.words) (map routine_piece rest))
        → AllByRecursion (λ p. 0 < length p.words) (map routine_piece (r ∷ rest))
    by true here e later = (ltb-true 0 (length r.1) here, later e)
    by false here e later = absurd cc

all_pieces : (P : Piece → Type 0) (xs ys : List Piece) → AllByRecursion P xs → AllByRecursion P ys → AllByRecursion P (xs ++ ys)
all_pieces P [] ys h k = k
all_pieces P (x ∷ xs) ys h k = (h.0, all_pieces P xs ys h.1 k)

-- ---- what the map says

map_functions : (text : List Placed) → map (λ f. (f.name, f.address)) (map function_of text) ≡ map function_site text
map_functions [] = refl
map_functions (p ∷ text) = ap (λ (rest : List (List ℕ × ℕ)). (p.piece.name, p.address) ∷ rest) (map_functions text)

map_globals : (begin : ℕ) (stood : List Standing) → map (λ g. (g.name, g.address)) (map (global_of begin) stood) ≡ map (global_site begin) stood
map_globals begin [] = refl
map_globals begin (s ∷ stood) = ap (λ (rest : List (List ℕ × ℕ)). (s.global.name, (begin + s.offset) % 2 ^ 32) ∷ rest) (map_globals begin stood)

named_sites : List Object → List (List ℕ × ℕ)
named_sites objects = map function_site (text_of objects) ++ map (global_site (data_begin objects)) (data_of objects)

address_is : (objects : List Object) (stack : ℕ) (name : List ℕ) → address_of (linked objects stack) name ≡ unwrap_or (lookup (bytes_eq name) (named_sites objects)) 0
unfolding linked named_sites
address_is objects stack name =
    λ i. unwrap_or (lookup (bytes_eq name) (map_functions (text_of objects) i ++ map_globals (data_begin objects) (data_of objects) i)) 0

-- ---- what is known of a program's objects

record Known (p : Program) (objects : List Object) : Type 0 where
  names : piece_names (pieces_of objects) ≡ map (λ f. f.name) (functions_of p) ++ map (λ r. r.0) routines
  words : AllByRecursion (λ q. 0 < length q.words) (pieces_of objects)
  globals : link.globals_of objects ≡ globals_of p
  distinct : AreDistinct (global_names (link.globals_of objects))
  others : (name : List ℕ) → Contains (global_names (link.globals_of objects)) name → AllByRecursion (λ n. n ≢ name) (piece_names (pieces_of objects))
  sizes : Sized (word_count objects) (stack_end objects p.stack)

all_names : (P : List ℕ → Type 0) (xs ys : List (List ℕ)) → AllByRecursion P xs → AllByRecursion P ys → AllByRecursion P (xs ++ ys)
all_names P [] ys h k = k
all_names P (x ∷ xs) ys h k = (h.0, all_names P xs ys h.1 k)

known : (p : Program) (d : List (List ℕ × Directives)) (functions : List Located) (objects : List Object) → IsProgram p → AreNamesApart p → AllServe (directed_functions p d) functions → AreObjectsOf p functions objects → size_fault objects p.stack ≡ None → Known p objects
known p d functions objects is apart serve of fits =
    let all = pieces_are p functions objects is of in
    let function_names = map (λ f. f.name) (functions_of p) in
    let names = names_are p d functions objects is serve of in
    let globals = globals_are p functions objects is of in
    let behind = distinct_right (map (λ r. r.0) routines) (function_names ++ global_names (globals_of p)) apart in
    record {
      names = names;
      words = subst (AllByRecursion (λ (q : Piece). 0 < length q.words)) (sym all) (all_pieces (λ q. 0 < length q.words) (pieces functions) routine_pieces (compiled_words functions) (routine_words routines refl));
      globals = globals;
      distinct = subst (λ (gs : List FlowGlobal). AreDistinct (global_names gs)) (sym globals) (distinct_right function_names (global_names (globals_of p)) behind);
      others = λ name c.
          let there = subst (λ (gs : List FlowGlobal). Contains (global_names gs) name) globals c in
          subst (AllByRecursion (λ (n : List ℕ). n ≢ name)) (sym names)
          (all_names (λ n. n ≢ name) function_names (map (λ r. r.0) routines)
          (others_before function_names (global_names (globals_of p)) name behind there)
          (others_before (map (λ r. r.0) routines) (function_names ++ global_names (globals_of p)) name apart (Contains-append_right function_names (global_names (globals_of p)) name there)));
      sizes = sized (word_count objects) (stack_end objects p.stack) fits;
    }

-- ---- the addresses

library_there : (name : List ℕ) → Contains library_functions name → Contains (map (λ r. r.0) routines) name
library_there name c = by c.0 c.1 c.2
  where
    by : (k : ℕ) → k < length library_functions → get_or library_functions k name ≡ name → Contains (map (λ r. r.0) routines) name
    by zero lt e = (0, omega arith, e)
    by (suc zero) lt e = (1, omega arith, e)
    by (suc (suc zero)) lt e = (2, omega arith, e)
    by (suc (suc (suc k))) lt e = absurd (omega (arith, lt))

function_there : (p : Program) (objects : List Object) (f : List ℕ) → Known p objects → Contains (names_of p) f → Contains (piece_names (pieces_of objects)) f
function_there p objects f k c =
    let function_names = map (λ f. f.name) (functions_of p) in
    subst (λ (names : List (List ℕ)). Contains names f) (sym k.names) (elim (Contains-append_cases library_functions function_names f c) [
      | inl library ↦ Contains-append_right function_names (map (λ r. r.0) routines) f (library_there f library)
      | inr own ↦ Contains-append_left function_names (map (λ r. r.0) routines) f own
    ])

record IsFunctionAt (objects : List Object) (stack : ℕ) (f : List ℕ) : Type 0 where
  aligned : address_of (linked objects stack) f % 4 ≡ 0
  above : text_start ≤ address_of (linked objects stack) f
  below : address_of (linked objects stack) f < data_begin objects
  is : lookup (bytes_eq f) (named_sites objects) ≡ Some (address_of (linked objects stack) f)

function_at : (p : Program) (objects : List Object) (f : List ℕ) → Known p objects → Contains (names_of p) f → IsFunctionAt objects p.stack f
unfolding named_sites
function_at p objects f k c =
    let ps = pieces_of objects in
    let h = function_found f (map (global_site (data_begin objects)) (data_of objects)) text_start ps refl (function_there p objects f k c) in
    let same : address_of (linked objects p.stack) f ≡ h.address = address_is objects p.stack f ∙ ap (λ (o : Option ℕ). unwrap_or o 0) h.is in
    record {
      aligned = rw same h.aligned;
      above = rw same h.start;
      below = omega (arith, same, h.within);
      is = h.is ∙ ap Some (sym same);
    }

record IsGlobalAt (p : Program) (objects : List Object) (g : FlowGlobal) : Type 0 where
  is : address_of (linked objects p.stack) g.name ≡ data_begin objects + offset_of 0 (link.globals_of objects) g.name
  stands : Stands 0 (offset_of 0 (link.globals_of objects) g.name) (global_room g) (0 + data_size objects)

global_at : (p : Program) (objects : List Object) (g : FlowGlobal) → Known p objects → Contains (link.globals_of objects) g → IsGlobalAt p objects g
unfolding named_sites
global_at p objects g k c =
    let gs = link.globals_of objects in
    let begin = data_begin objects in
    let stands = global_stands g 0 gs c.0 c.1 c.2 refl k.distinct in
    let others = k.others g.name (name_there g gs c.0 c.1 c.2) in
    let site : lookup (bytes_eq g.name) (named_sites objects) ≡ Some ((begin + offset_of 0 gs g.name) % 2 ^ 32) =
    behind_functions g.name (map (global_site begin) (data_of objects)) text_start (pieces_of objects) others
    ∙ global_found g begin 0 gs c.0 c.1 c.2 k.distinct in
    let address : address_of (linked objects p.stack) g.name ≡ (begin + offset_of 0 gs g.name) % 2 ^ 32 =
    address_is objects p.stack g.name ∙ ap (λ (o : Option ℕ). unwrap_or o 0) site in
    let memory = k.sizes.memory in
    record { is = omega (arith, address, stands.within, memory); stands = stands }

function_own : (p : Program) (objects : List Object) (f g : List ℕ) → Known p objects → Contains (names_of p) f → Contains (names_of p) g
    → address_of (linked objects p.stack) f ≡ address_of (linked objects p.stack) g → f ≡ g
unfolding named_sites
function_own p objects f g k cf cg same =
    let one = (function_at p objects f k cf).is in
    let two = (function_at p objects g k cg).is in
    one_function f g (map (global_site (data_begin objects)) (data_of objects)) text_start (address_of (linked objects p.stack) g) (pieces_of objects) refl k.words
    (any_named f (pieces_of objects) (function_there p objects f k cf)) (any_named g (pieces_of objects) (function_there p objects g k cg))
    (one ∙ ap Some same) two

-- ---- all of it

pub addresses_are_lawful : (p : Program) (d : List (List ℕ × Directives)) (functions : List Located) (objects : List Object) (behind : List ℕ → ℕ → ℕ)
    → IsProgram p → AreNamesApart p → AllServe (directed_functions p d) functions → AreObjectsOf p functions objects → size_fault objects p.stack ≡ None
    → ((f : List ℕ) (n : ℕ) → behind f n < 2 ^ 32) → AreLawful p (linked_addresses objects p.stack behind)
addresses_are_lawful p d functions objects behind is apart serve of fits words =
    let k = known p d functions objects is apart serve of fits in
    let there = λ (g : FlowGlobal) (c : Contains (globals_of p) g). subst (λ (gs : List FlowGlobal). Contains gs g) (sym k.globals) c in
    let global = λ (g : FlowGlobal) (c : Contains (globals_of p) g). global_at p objects g k (there g c) in
    let function = λ (f : List ℕ) (c : Contains (names_of p) f). function_at p objects f k c in
    record {
      aligned = λ g c. let h = global g c in omega (arith, h.is, h.stands.aligned);
      above = λ g c. let h = global g c in omega (arith, h.is);
      below = λ g c. let h = global g c in omega (arith, h.is, h.stands.within);
      apart = λ g h cg ch other.
          let one = global g cg in
          let two = global h ch in
          let a = there g cg in
          let b = there h ch in
          elim (globals_apart g h 0 (link.globals_of objects) a.0 b.0 a.1 a.2 b.1 b.2 other refl k.distinct) [
            | inl before ↦ inl (omega (arith, one.is, two.is, before))
            | inr behind ↦ inr (omega (arith, one.is, two.is, behind))
          ];
      function_aligned = λ f c. (function f c).aligned;
      function_above = λ f c. (function f c).above;
      function_below = λ f c. (function f c).below;
      function_own = λ f g cf cg same. function_own p objects f g k cf cg same;
      behind_word = words;
      data_above = omega arith;
      base_aligned = omega arith;
      stack_above = omega arith;
      stack = refl;
      memory = k.sizes.memory;
    }
