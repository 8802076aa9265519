-- Numbers that fit into 32 bits: the words of a linked program, its frames and its addresses.
use Rattle.std.proofs.Common.{◌≡◌, ℕ, zero, suc, ◌+◌, ◌-◌, ◌*◌, ◌/◌, ◌%◌, ◌^◌, Bool, true, false, ◌&&◌, List, [], ◌∷◌, map, length, set, refl, arith, nat_lt, pos}
use Rattle.std.specs.List.{AllByRecursion, flat_map}
use Rattle.std.proofs.lemmas.Bool.{ltb-true}
use Rattle.pw_fields.specs.Fields.{FitsU32}
use Rattle.pw_inst.specs.InstructionTable.{word_of, nop}
use Rattle.pw_inst.specs.Setting.{with_long_immediate, with_displacement, with_branch}
use Rattle.pw_inst.specs.declared.relocation.Fix.{Fix}
use Rattle.pw_inst.specs.declared.relocation.FixKind.{FixKind}
use Rattle.pw_inst.specs.declared.relocation.FixKind.TheVariants.{Ldil, Im14, Bl}
use Rattle.pw_object.specs.declared.functions.ObjectFn.{ObjectFn}
use Rattle.pw_object.specs.declared.object.Object.{Object}
use Rattle.pw_object.specs.Functions.{IsFunction}
use Rattle.pw_object.specs.Object.{IsObject}
use Rattle.pw_milli.specs.Library.{routines}
use Rattle.pw_value.specs.Names.{is_before}
use Rattle.pw_link.specs.Layout.{Piece, piece_of, routine_piece, routine_pieces, function_pieces, in_order, pieces_of, placed_from, Sites}
use Rattle.pw_link.specs.Linking.{settled, with_fix, with_fixes, piece_words, linked_words}
use Rattle.std.specs.List.{position_or_len}
use Rattle.pw_law_link.specs.Parts.{HasWordsOf32Bits}
use Rattle.pw_law_link.proofs.Kept.{all_placed, all_append, all_map, all_flat, all_by, each_flat}

-- ---- words with relocations

long_fits : (word im : ℕ) → FitsU32 (with_long_immediate word im)
unfolding with_long_immediate
long_fits word im = omega arith

displacement_fits : (word im : ℕ) → FitsU32 (with_displacement word (pos im))
unfolding with_displacement
displacement_fits word im = omega arith

branch_fits : (word q : ℕ) → FitsU32 (with_branch word q)
unfolding with_branch
branch_fits word q = omega arith

settled_fits : (kind : FixKind) (own address word : ℕ) → FitsU32 (settled kind own address word)
unfolding settled
settled_fits Ldil own address word = long_fits word (address / 2 ^ 11)
settled_fits Im14 own address word = displacement_fits word (address % 2 ^ 11)
settled_fits Bl own address word = branch_fits word ((address + (2 ^ 32 - (own + 8) % 2 ^ 32)) % 2 ^ 32 / 4)

set_fits : (words : List ℕ) (k word : ℕ) → AllByRecursion FitsU32 words → FitsU32 word → AllByRecursion FitsU32 (set words k word)
set_fits [] k word all fits = tt
set_fits (w ∷ words) zero word all fits = (fits, all.1)
set_fits (w ∷ words) (suc k) word all fits = (all.0, set_fits words k word all.1 fits)

fixes_fit : (sites : Sites) (at : ℕ) (fixes : List Fix) (words : List ℕ) → AllByRecursion FitsU32 words → AllByRecursion FitsU32 (with_fixes sites at fixes words)
fixes_fit sites at [] words all = all
fixes_fit sites at (f ∷ fixes) words all = fixes_fit sites at fixes (with_fix sites at f words) (set_fits words f.word _ all (settled_fits f.kind _ _ _))

-- ---- pieces

abbrev pub HasWords : Piece → Type 0
HasWords p = AllByRecursion FitsU32 p.words

-- the frame and the words of a piece
pub record IsPiece (p : Piece) : Type 0 where
  pub frame : FitsU32 p.frame
  pub words : AllByRecursion FitsU32 p.words

abbrev all_fit : List ℕ → Bool
all_fit [] = true
all_fit (w ∷ words) = nat_lt w (2 ^ 32) && all_fit words

both : (a b : Bool) → (a && b) ≡ true → (a ≡ true) × (b ≡ true)
both true b e = (refl, e)
both false b e = absurd cc

words_fit_by : (words : List ℕ) → all_fit words ≡ true → AllByRecursion FitsU32 words
words_fit_by [] e = tt
words_fit_by (w ∷ words) e =
    let h = both (nat_lt w (2 ^ 32)) (all_fit words) e in
    (ltb-true w (2 ^ 32) h.0, words_fit_by words h.1)

abbrev each_fits : List (List ℕ × List ℕ) → Bool
each_fits [] = true
each_fits (r ∷ rest) = all_fit r.1 && each_fits rest

routines_fit_by : (rs : List (List ℕ × List ℕ)) → each_fits rs ≡ true → AllByRecursion IsPiece (map routine_piece rs)
routines_fit_by [] e = tt
routines_fit_by (r ∷ rest) e =
    let h = both (all_fit r.1) (each_fits rest) e in
    (record { frame = omega arith; words = words_fit_by r.1 h.0 }, routines_fit_by rest h.1)

routines_fit : AllByRecursion IsPiece routine_pieces
routines_fit = routines_fit_by routines refl

function_fits : (f : ObjectFn) → IsFunction f → IsPiece (piece_of f)
function_fits f is = record { frame = is.frame; words = is.words }

object_fits : (o : Object) → IsObject o → AllByRecursion IsPiece (map piece_of o.functions)
object_fits o is = all_map IsPiece piece_of o.functions (all_by IsFunction (λ f. IsPiece (piece_of f)) o.functions function_fits is.functions)

abbrev pub place_of : Object → List Object → ℕ
place_of o order = position_or_len (λ p. is_before o.module p.module) order

pub ordered : (P : Object → Type 0) (objects : List Object) → AllByRecursion P objects → AllByRecursion P (in_order objects)
ordered P objects all = all_placed P place_of objects [] tt all

pub pieces_fit : (objects : List Object) → AllByRecursion IsObject objects → AllByRecursion IsPiece (pieces_of objects)
pieces_fit objects all =
    let each = all_by IsObject (λ o. AllByRecursion IsPiece (map piece_of o.functions)) (in_order objects) object_fits (ordered IsObject objects all) in
    all_append IsPiece (function_pieces (in_order objects)) routine_pieces (all_flat IsPiece (λ o. map piece_of o.functions) (in_order objects) each) routines_fit

-- the words of functions, put behind one another, are those of the pieces
pub pieces_have_words : (objects : List Object) → AllByRecursion HasWordsOf32Bits (flat_map (λ o. o.functions) objects) → AllByRecursion HasWords (pieces_of objects)
pieces_have_words objects all =
    let Has = λ (o : Object). AllByRecursion HasWordsOf32Bits o.functions in
    let each = all_by Has (λ o. AllByRecursion HasWords (map piece_of o.functions)) (in_order objects)
    (λ o own. all_map HasWords piece_of o.functions own) (ordered Has objects (each_flat HasWordsOf32Bits (λ o. o.functions) objects all)) in
    all_append HasWords (function_pieces (in_order objects)) routine_pieces
    (all_flat HasWords (λ o. map piece_of o.functions) (in_order objects) each)
    (all_by IsPiece HasWords routine_pieces (λ p is. is.words) routines_fit)

-- ---- the text

texts_fit : (sites : Sites) (at : ℕ) (ps : List Piece) → AllByRecursion HasWords ps → AllByRecursion FitsU32 (flat_map (piece_words sites) (placed_from at ps))
texts_fit sites at [] all = tt
texts_fit sites at (p ∷ ps) all =
    all_append FitsU32 (with_fixes sites at p.fixes p.words) (flat_map (piece_words sites) (placed_from (at + 4 * length p.words) ps))
    (fixes_fit sites at p.fixes p.words all.0) (texts_fit sites (at + 4 * length p.words) ps all.1)

nop_fits : FitsU32 (word_of nop)
unfolding word_of
nop_fits = omega arith

pub words_fit : (sites : Sites) (at : ℕ) (ps : List Piece) → AllByRecursion HasWords ps → AllByRecursion FitsU32 (linked_words sites (placed_from at ps))
words_fit sites at ps all = all_append FitsU32 (flat_map (piece_words sites) (placed_from at ps)) (word_of nop ∷ []) (texts_fit sites at ps all) (nop_fits, tt)
