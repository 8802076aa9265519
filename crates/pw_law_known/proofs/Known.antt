-- Return addresses lie in the words of the function in which the call stands.
use Rattle.std.specs.Prelude.{ℕ, zero, suc, ◌≡◌, ◌+◌, ◌*◌, ◌<◌, ◌≤◌, if◌then◌else◌, Bool, true, false, Option, Some, List, [], ◌∷◌, ◌++◌, map, length, Contains, bytes_eq}
use Rattle.std.specs.List.{find, AllByRecursion}
use Rattle.std.proofs.Common.{arith, get_or, subst, sym, ap, refl, ◌∙◌}
use Rattle.std.proofs.lemmas.List.{map-append, append_assoc, length-append}
use Rattle.pw_value.specs.Limits.{text_start}
use Rattle.pw_flow.specs.ValidFlow.{AreDistinct}
use Rattle.pw_db.specs.declared.database.Directives.{Directives}
use Rattle.pw_object.specs.declared.object.Object.{Object}
use Rattle.pw_alloc.specs.declared.located.Located.{Located}
use Rattle.pw_select.specs.Selection.{selected}
use Rattle.pw_delay.specs.Placement.{placed, sizes}
use Rattle.pw_image.specs.declared.image.Function.{Function}
use Rattle.pw_link.specs.Layout.{Piece, Placed, piece_of, placed_from, pieces_of, routine_pieces, text_of}
use Rattle.pw_link.specs.Linking.{function_of, linked}
use Rattle.pw_run_languages.specs.Programs.{Program, functions_of, names_of}
use Rattle.pw_run_languages.specs.CodeStands.{is_long}
use Rattle.pw_run_languages.specs.LineRun.{LineFn, Frame, return_address}
use Rattle.pw_run_languages.specs.LinkingLaws.{compiled, address_of}
use Rattle.pw_run_languages.specs.SelectionLaws.{arranged, with_items}
use Rattle.pw_debug.specs.declared.info.FrameInfo.{FrameInfo}
use Rattle.pw_debug.specs.Holding.{frame_at, frame_of}
use Rattle.pw_debug_frames.specs.Frames.{frame_info}
use Rattle.pw_law_link_run.specs.Placing.{own_address, words_of}
use Rattle.pw_law_link_run.specs.Simulating.{IsCaller}
use Rattle.pw_law_link_run.specs.Leveled.{AreFramed, IsFramed}
use Rattle.pw_law_link_run.specs.Steps.{Setting}
use Rattle.pw_law_linked.specs.Given.{IsGiven}
use Rattle.pw_law_linked.specs.Settings.{linked_setting}
use Rattle.pw_law_linked.specs.Standing.{IsFoundAmong, ItsAddressIsItsOwn, pieces}
use Rattle.pw_law_linked.proofs.Addresses.{HasAddress}
use Rattle.pw_law_linked.proofs.Linked.{one_of}
use Rattle.pw_law_linked.proofs.Names.{at}
use Rattle.pw_law_linked.proofs.Own.{text_addresses}
use Rattle.pw_law_linked.proofs.Spans.{names_served}
use Rattle.pw_law_linked.proofs.Sizes.{placed_length}
use Rattle.pw_law_linked.proofs.Text.{OrderStays, text_is}
use Rattle.pw_law_known.proofs.Nearest.{HasNameThere, end_of, functions_from, known_in, lies_in, one_placed}

-- ---- one of many

pub record Split (ls : List Located) (l : Located) : Type 0 where
  pub before : List Located
  pub after : List Located
  pub is : ls ≡ before ++ l ∷ after

split : (ls : List Located) (l : Located) → Contains ls l → Split ls l
split [] l c = absurd (omega (arith, c.1))
split (k ∷ ks) l c = by c.0 c.1 c.2 (split ks l)
  where
    by : (i : ℕ) → i < length (k ∷ ks) → get_or (k ∷ ks) i l ≡ l → (Contains ks l → Split ks l) → Split (k ∷ ks) l
    by zero lt e later = record { before = []; after = ks; is = ap (λ (x : Located). x ∷ ks) e }
    by (suc i) lt e later =
        let s = later (i, omega (arith, lt), e) in
        record { before = k ∷ s.before; after = s.after; is = ap (λ (xs : List Located). k ∷ xs) s.is }

-- ---- what is known of a function by its name

known_by : (ls : List Located) (name : List ℕ) (l : Located) → find (λ g. bytes_eq g.body.name name) ls ≡ Some l → frame_of (map frame_info ls) name ≡ Some (frame_info l)
known_by [] name l e = absurd cc
known_by (k ∷ ks) name l e = by (bytes_eq k.body.name name) e (known_by ks name l)
  where
    by : (b : Bool) → (if b then Some k else find (λ g. bytes_eq g.body.name name) ks) ≡ Some l → (find (λ g. bytes_eq g.body.name name) ks ≡ Some l → frame_of (map frame_info ks) name ≡ Some (frame_info l))
        → (if b then Some (frame_info k) else frame_of (map frame_info ks) name) ≡ Some (frame_info l)
    by true e later = let same : k ≡ l = cc in ap (λ (x : Located). Some (frame_info x)) same
    by false e later = later e

-- ---- the text

-- what of the functions before stands at its address has its name
names_there : (p : Program) (objects : List Object) (l : Located) (own at : ℕ) (ks : List Located) (rest : List Piece) → address_of (linked objects p.stack) l.body.name ≡ own → ItsAddressIsItsOwn p objects l
    → AllByRecursion (ItsAddressIsItsOwn p objects) ks → AllByRecursion (HasAddress objects p.stack) (placed_from at (pieces ks ++ rest)) → AllByRecursion (HasNameThere own l.body.name) (placed_from at (pieces ks))
names_there p objects l own at [] rest is h all has = tt
names_there p objects l own at (k ∷ ks) rest is h all has =
    ((λ e. h.own k.body.name all.0.there (has.0 ∙ e ∙ sym is)), names_there p objects l own (at + 4 * length (placed (selected k)).words) ks rest is h all.1 has.1)

first_all : (P : Located → Type 0) (xs ys : List Located) → AllByRecursion P (xs ++ ys) → AllByRecursion P xs
first_all P [] ys h = tt
first_all P (x ∷ xs) ys h = (h.0, first_all P xs ys h.1)

-- the pieces behind one
abbrev pub behind : List Located → List Piece
behind after = pieces after ++ routine_pieces

pieces_split : (before : List Located) (l : Located) (after : List Located) → pieces (before ++ l ∷ after) ++ routine_pieces ≡ pieces before ++ piece_of (compiled l) ∷ behind after
pieces_split [] l after = refl
pieces_split (k ∷ ks) l after = ap (λ (ps : List Piece). piece_of (compiled k) ∷ ps) (pieces_split ks l after)

-- an address in the words of a function of the text
known_text : (p : Program) (objects : List Object) (functions : List Located) (l : Located) (s : Split functions l) (a : ℕ) (rest : List Piece)
    → AllByRecursion (ItsAddressIsItsOwn p objects) functions → ItsAddressIsItsOwn p objects l → behind s.after ≡ rest → 0 < length rest
    → AllByRecursion (HasAddress objects p.stack) (placed_from text_start (pieces s.before ++ piece_of (compiled l) ∷ rest))
    → address_of (linked objects p.stack) l.body.name ≤ a → a < address_of (linked objects p.stack) l.body.name + 4 * length (placed (selected l)).words
    → (frames : List FrameInfo) → frame_of frames l.body.name ≡ Some (frame_info l)
    → frame_at (functions_from text_start (pieces s.before ++ piece_of (compiled l) ∷ rest)) frames a ≡ Some (frame_info l)
known_text p objects functions l s a [] own h is some has le lt frames known = absurd (omega (arith, some))
known_text p objects functions l s a (r ∷ rest) own h more some has le lt frames known =
    let q = piece_of (compiled l) in
    let address = address_of (linked objects p.stack) l.body.name in
    let is : address ≡ end_of text_start (pieces s.before) = one_placed (HasAddress objects p.stack) text_start (pieces s.before) q (r ∷ rest) has in
    let before = first_all (ItsAddressIsItsOwn p objects) s.before (l ∷ s.after) (subst (λ (ls : List Located). AllByRecursion (ItsAddressIsItsOwn p objects) ls) s.is own) in
    let names = names_there p objects l address text_start s.before (q ∷ r ∷ rest) refl h before has in
    known_in (functions_from text_start (pieces s.before ++ q ∷ r ∷ rest)) frames a l.body.name (frame_info l)
    (lies_in a address text_start (pieces s.before) q r rest (sym is) le lt names) known

routines_stand : (after : List Located) → 0 < length (behind after)
routines_stand after =
    let sum = length-append (pieces after) routine_pieces in
    let some : length routine_pieces ≡ 8 = refl in
    omega (arith, sum, some)

pub known_function : OrderStays → (p : Program) (d : List (List ℕ × Directives)) (functions : List Located) (objects : List Object) → IsGiven p d functions objects → (linked objects p.stack).functions ≡ map function_of (text_of objects)
    → AllByRecursion (ItsAddressIsItsOwn p objects) functions → map (λ l. l.body.name) functions ≡ map (λ f. f.name) (functions_of p)
    → (l : Located) → Contains functions l → (a : ℕ) → address_of (linked objects p.stack) l.body.name ≤ a → a < address_of (linked objects p.stack) l.body.name + 4 * length (placed (selected l)).words
    → (frames : List FrameInfo) → frame_of frames l.body.name ≡ Some (frame_info l) → frame_at (linked objects p.stack).functions frames a ≡ Some (frame_info l)
known_function stays p d functions objects given mapped own named l c a le lt frames known =
    let s = split functions l c in
    let text : pieces_of objects ≡ pieces s.before ++ piece_of (compiled l) ∷ behind s.after =
    text_is stays p functions objects given.program given.made ∙ ap (λ (ls : List Located). pieces ls ++ routine_pieces) s.is ∙ pieces_split s.before l s.after in
    let has = subst (λ (ps : List Piece). AllByRecursion (HasAddress objects p.stack) (placed_from text_start ps)) text (text_addresses stays p functions objects given.program given.made given.apart named) in
    let there = known_text p objects functions l s a (behind s.after) own (at (ItsAddressIsItsOwn p objects) functions l own c) refl (routines_stand s.after) has le lt frames known in
    ap (λ (fs : List Function). frame_at fs frames a) (mapped ∙ ap (λ (ps : List Piece). functions_from text_start ps) text) ∙ there

-- ---- return addresses

-- what is used of the laws below
pub record Laws : Type 0 where
  pub stays : OrderStays
  pub mapped : (objects : List Object) (stack : ℕ) → (linked objects stack).functions ≡ map function_of (text_of objects)
  pub found : (ls : List Located) → AreDistinct (map (λ l. l.body.name) ls) → AllByRecursion (IsFoundAmong ls) ls
  pub inside : (x : Setting) (g : Frame) (a : ℕ) → IsFramed x g.function → IsCaller x g → own_address x g.function + 4 * words_of x g.function g.function.items ≤ a → return_address x.addresses g g.left < a

pub known_return : Laws → (p : Program) (d : List (List ℕ × Directives)) (functions : List Located) (objects : List Object) (input : List ℕ) (g : Frame) → IsGiven p d functions objects
    → AreDistinct (map (λ l. l.body.name) functions) → AllByRecursion (ItsAddressIsItsOwn p objects) functions → AreFramed (linked_setting p functions objects input)
    → ((l : Located) → IsFoundAmong functions l → (linked_setting p functions objects input).long l.body.name ≡ is_long (selected l))
    → IsCaller (linked_setting p functions objects input) g
    → frame_at (linked objects p.stack).functions (map frame_info functions) (return_address (linked_setting p functions objects input).addresses g g.left) ≡ Some (frame_info g.function.located)
known_return laws p d functions objects input g given distinct own framed long caller =
    let x = linked_setting p functions objects input in
    let one = one_of functions g.function caller.there in
    let l = one.located in
    let same : l ≡ g.function.located = ap (λ (f : LineFn). f.located) one.is in
    let found = at (IsFoundAmong functions) functions l (laws.found functions distinct) one.there in
    let words : words_of x g.function g.function.items ≡ length (placed (selected l)).words =
    sym (ap (λ (f : LineFn). words_of x f f.items) one.is) ∙ ap (λ (b : Bool). sizes b (arranged (selected l))) (long l found) ∙ sym (placed_length (selected l)) in
    let address : own_address x g.function ≡ address_of (linked objects p.stack) l.body.name = sym (ap (λ (f : LineFn). own_address x f) one.is) in
    let a = return_address x.addresses g g.left in
    let low = caller.at in
    let high : a < own_address x g.function + 4 * words_of x g.function g.function.items = laws.inside x g (own_address x g.function + 4 * words_of x g.function g.function.items) (framed.framed g.function caller.there) caller (omega arith) in
    let known = known_by functions l.body.name l found in
    known_function laws.stays p d functions objects given (laws.mapped objects p.stack) own (names_served p d functions objects given) l one.there a (omega (arith, low, address)) (omega (arith, high, address, words)) (map frame_info functions) known
    ∙ ap (λ (k : Located). Some (frame_info k)) same
