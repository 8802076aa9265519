-- Where the text of a linked program ends, and with it each of its functions.
use Rattle.std.specs.Prelude.{ℕ, suc, ◌≡◌, ◌+◌, ◌*◌, ◌^◌, ◌<◌, ◌≤◌, nat_lt, Bool, true, false, if◌then◌else◌, Some, None, List, [], ◌∷◌, ◌++◌, map, length, Contains}
use Rattle.std.specs.List.{AllByRecursion, flat_map, sum_by}
use Rattle.std.proofs.Common.{arith, subst, sym, refl, length-append}
use Rattle.std.proofs.lemmas.List.Sums.{sum_by-cons}
use Rattle.std.proofs.lemmas.Bool.{ltb-false}
use Rattle.pw_value.specs.Limits.{text_start, word_limit, memory_size}
use Rattle.pw_value.specs.Caps.{capped}
use Rattle.pw_value.specs.declared.fault.LinkFault.TheVariants.{TextTooLarge, MemoryTooLarge}
use Rattle.pw_inst.specs.InstructionTable.{word_of, nop}
use Rattle.pw_flow.specs.ValidFlow.{AreDistinct}
use Rattle.pw_flow.specs.declared.flow.FlowGlobal.{FlowGlobal}
use Rattle.pw_db.specs.declared.database.Directives.{Directives}
use Rattle.pw_object.specs.declared.object.Object.{Object}
use Rattle.pw_alloc.specs.declared.located.Located.{Located}
use Rattle.pw_milli.specs.Library.{routines}
use Rattle.pw_link.specs.Layout.{Piece, Placed, placed_from, pieces_of, text_of, word_count, data_begin, stack_end, Sites}
use Rattle.pw_link.specs.Linking.{linked, piece_words, size_fault}
use Rattle.pw_machine.specs.Start.{start_core}
use Rattle.pw_law_link.specs.Standing.{sites}
use Rattle.pw_run_languages.specs.Programs.{Program, functions_of, globals_of}
use Rattle.pw_run_languages.specs.Addresses.{AreLawful}
use Rattle.pw_run_languages.specs.LinkingLaws.{address_of}
use Rattle.pw_law_code.specs.LinkedAddresses.{linked_addresses}
use Rattle.pw_law_code.proofs.Addresses.{served_names}
use Rattle.pw_law_linked.specs.Settings.{behind_of, linked_setting}
use Rattle.pw_law_linked.specs.Standing.{AtItsAddress, EndsBelow, ItsAddressIsItsOwn}
use Rattle.pw_law_linked.specs.Given.{IsGiven}
use Rattle.pw_law_linked.proofs.Text.{OrderStays}
use Rattle.pw_law_linked.proofs.Addresses.{each_function}
use Rattle.pw_law_linked.proofs.Relocated.{fixes_length}
use Rattle.pw_law_linked.proofs.Own.{left_distinct, right_distinct, addresses_own}
use Rattle.pw_law_linked.proofs.Words.{returns_words}

-- ---- the text is no longer than it may be

pub few_words : (objects : List Object) (stack : ℕ) → size_fault objects stack ≡ None → word_count objects ≤ word_limit
few_words objects stack fits = by (nat_lt word_limit (word_count objects)) refl fits
  where
    by : (b : Bool) → nat_lt word_limit (word_count objects) ≡ b
        → (if b then Some (TextTooLarge (capped (4 * word_count objects))) else if nat_lt memory_size (stack_end objects stack) then Some (MemoryTooLarge (capped (stack_end objects stack))) else None) ≡ None
        → word_count objects ≤ word_limit
    by true is e = absurd cc
    by false is e = ltb-false word_limit (word_count objects) is

-- ---- names

pub names_served : (p : Program) (d : List (List ℕ × Directives)) (functions : List Located) (objects : List Object) → IsGiven p d functions objects
    → map (λ l. l.body.name) functions ≡ map (λ f. f.name) (functions_of p)
names_served p d functions objects given = served_names d (functions_of p) functions given.serve

pub names_distinct : (p : Program) (d : List (List ℕ × Directives)) (functions : List Located) (objects : List Object) → IsGiven p d functions objects → AreDistinct (map (λ l. l.body.name) functions)
names_distinct p d functions objects given =
    let own = map (λ f. f.name) (functions_of p) in
    let globals = map (λ g. g.name) (globals_of p) in
    subst AreDistinct (sym (names_served p d functions objects given)) (left_distinct own globals (right_distinct (map (λ r. r.0) routines) (own ++ globals) given.apart))

-- ---- the end of the text

abbrev pub EndsBy : ℕ → Placed → Type 0
EndsBy top q = q.address + 4 * length q.piece.words ≤ top

pub within : (top at : ℕ) (ps : List Piece) → at + 4 * sum_by (λ p. length p.words) ps ≤ top → AllByRecursion (EndsBy top) (placed_from at ps)
within top at [] h = tt
within top at (p ∷ ps) h =
    let count = sum_by-cons (λ (p : Piece). length p.words) p ps in
    (omega (arith, count, h), within top (at + 4 * length p.words) ps (omega (arith, count, h)))

-- each function ends before the last word of the text
pub text_within : (objects : List Object) (top : ℕ) → text_start + 4 * word_count objects ≤ top + 4 → AllByRecursion (EndsBy top) (text_of objects)
text_within objects top h = within top text_start (pieces_of objects) (omega (arith, h))

each_below : (objects : List Object) (stack top : ℕ) (ls : List Located) → top + 8 < 2 ^ 32 → AllByRecursion (AtItsAddress (EndsBy top) objects stack) ls → AllByRecursion (EndsBelow objects stack) ls
each_below objects stack top [] small h = tt
each_below objects stack top (l ∷ ls) small h = (omega (arith, small, h.0), each_below objects stack top ls small h.1)

pub functions_within : OrderStays → (p : Program) (d : List (List ℕ × Directives)) (functions : List Located) (objects : List Object) (top : ℕ) → IsGiven p d functions objects
    → text_start + 4 * word_count objects ≤ top + 4 → AllByRecursion (AtItsAddress (EndsBy top) objects p.stack) functions
functions_within stays p d functions objects top given h =
    each_function stays (EndsBy top) p functions objects given.program given.made (names_distinct p d functions objects given) (text_within objects top h)

-- ---- addresses

abbrev pub GivesLawfulAddresses : Type 0
GivesLawfulAddresses =
    (p : Program) (d : List (List ℕ × Directives)) (functions : List Located) (objects : List Object) (behind : List ℕ → ℕ → ℕ) → IsGiven p d functions objects → ((f : List ℕ) (n : ℕ) → behind f n < 2 ^ 32)
    → AreLawful p (linked_addresses objects p.stack behind)

pub addresses_lawful : OrderStays → GivesLawfulAddresses → (p : Program) (d : List (List ℕ × Directives)) (functions : List Located) (objects : List Object) (input : List ℕ) → IsGiven p d functions objects
    → AreLawful p (linked_setting p functions objects input).addresses
addresses_lawful stays lawful p d functions objects input given =
    let few = few_words objects p.stack given.fits in
    let ends = functions_within stays p d functions objects (text_start + 4 * word_limit) given (omega (arith, few)) in
    lawful p d functions objects (behind_of functions objects p.stack) given (returns_words functions objects p.stack (each_below objects p.stack (text_start + 4 * word_limit) functions (omega arith) ends))

pub each_global : (P : FlowGlobal → Type 0) (gs : List FlowGlobal) → ((g : FlowGlobal) → Contains gs g → P g) → AllByRecursion P gs
each_global P [] all = tt
each_global P (g ∷ gs) all = (all g (0, omega arith, refl), each_global P gs (λ h c. all h (suc c.0, omega (arith, c.1), c.2)))

pub globals_given : OrderStays → GivesLawfulAddresses → (p : Program) (d : List (List ℕ × Directives)) (functions : List Located) (objects : List Object) → IsGiven p d functions objects
    → AllByRecursion (λ v. data_begin objects ≤ address_of (linked objects p.stack) v.name) (globals_of p)
globals_given stays lawful p d functions objects given =
    each_global (λ v. data_begin objects ≤ address_of (linked objects p.stack) v.name) (globals_of p) (addresses_lawful stays lawful p d functions objects [] given).above

pub own_given : OrderStays → GivesLawfulAddresses → (p : Program) (d : List (List ℕ × Directives)) (functions : List Located) (objects : List Object) → IsGiven p d functions objects → AllByRecursion (ItsAddressIsItsOwn p objects) functions
own_given stays lawful p d functions objects given =
    addresses_own stays p functions objects (behind_of functions objects p.stack) given.program given.made given.apart (names_served p d functions objects given)
    (addresses_lawful stays lawful p d functions objects [] given)

-- ---- the words of the image

flat_length : (s : Sites) (at : ℕ) (ps : List Piece) → length (flat_map (piece_words s) (placed_from at ps)) ≡ sum_by (λ p. length p.words) ps
flat_length s at [] = refl
flat_length s at (p ∷ ps) =
    let next = at + 4 * length p.words in
    let q : Placed = record { address = at; piece = p } in
    let both = length-append (piece_words s q) (flat_map (piece_words s) (placed_from next ps)) in
    let here = fixes_length s at p.fixes p.words in
    let count = sum_by-cons (λ (p : Piece). length p.words) p ps in
    omega (arith, both, here, count, flat_length s next ps)

pub words_count : (objects : List Object) (stack : ℕ) → length (linked objects stack).memory.words ≡ word_count objects
unfolding linked
words_count objects stack =
    let s = sites objects stack in
    let both = length-append (flat_map (piece_words s) (text_of objects)) (word_of nop ∷ []) in
    omega (arith, both, flat_length s text_start (pieces_of objects))

-- so many has the machine
pub text_count : (p : Program) (functions : List Located) (objects : List Object) (input : List ℕ) → (linked_setting p functions objects input).start.core.text ≡ word_count objects
unfolding start_core
text_count p functions objects input = words_count objects p.stack
