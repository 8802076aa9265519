-- What is selected of a lawful function can be placed.
use Rattle.std.proofs.Common.{◌≡◌, ℕ, zero, suc, ◌+◌, ◌-◌, ◌*◌, ◌≤◌, ◌<◌, ◌^◌, ◌==◌, ◌&&◌, Bool, true, false, if◌then◌else◌, None, Some, List, [], ◌∷◌, ◌++◌, length, map, refl, sym, subst, arith}
use Rattle.std.proofs.lemmas.Int.{ints}
use Rattle.std.specs.Prelude.{ℤ, pos, negsuc, nat_lt, Contains, slice_get, slice_index_or, unwrap_or}
use Rattle.std.specs.List.{AllByRecursion, flat_map}
use Rattle.pw_db.specs.Limits.{first_register, last_register, register_count}
use Rattle.pw_db.specs.declared.database.Web.{Web}
use Rattle.pw_db.specs.declared.database.Role.{Role}
use Rattle.pw_db.specs.Database.{IsWeb, IsDirectives}
use Rattle.pw_flow.specs.declared.flow.Op.{Op}
use Rattle.pw_flow.specs.declared.flow.Op.TheVariants as op
use Rattle.pw_flow.specs.declared.flow.End.{End}
use Rattle.pw_flow.specs.declared.flow.End.TheVariants as end
use Rattle.pw_flow.specs.ValidFlow.{IsOp}
use Rattle.pw_webflow.specs.declared.web.WebOp.{WebOp}
use Rattle.pw_webflow.specs.declared.web.WebOp.TheVariants.{Flow, Read, Write}
use Rattle.pw_webflow.specs.declared.web.WebBlock.{WebBlock}
use Rattle.pw_webflow.specs.declared.web.WebFn.{WebFn}
use Rattle.pw_webflow.specs.ValidWebs.{IsWebOp, IsWebBlock, IsWebFn}
use Rattle.std.proofs.lemmas.Bool.Decides.{nat_tests}
use Rattle.pw_inst.specs.Fields.{IsSigned}
use Rattle.pw_inst.specs.Limits.{near_least, near_limit}
use Rattle.pw_inst.specs.InstructionTable.{IsInRange}
use Rattle.pw_inst.specs.declared.Inst.TheVariants as i
use Rattle.pw_inst.specs.declared.line.Line.{Line}
use Rattle.pw_inst.specs.declared.line.Line.TheVariants.{Plain, Jump, BranchNonZero, Leave}
use Rattle.pw_inst.specs.declared.relocation.Symbol.TheVariants.{Named, StackLimit}
use Rattle.pw_delay.specs.Lines.{AreLines}
use Rattle.pw_alloc.specs.declared.located.Place.{Place}
use Rattle.pw_alloc.specs.declared.located.Place.TheVariants.{Slot, Reg}
use Rattle.pw_alloc.specs.declared.located.Located.{Located}
use Rattle.pw_alloc.specs.Frames.{below, head_size, reaches_from, slots_begin}
use Rattle.pw_alloc.specs.Allocation.{is_entry, in_frame}
use Rattle.pw_alloc.proofs.AllocationLaws.{located_fits}
use Rattle.pw_alloc.specs.ValidPlaces.{IsPlace, IsLocated}
use Rattle.pw_select_lines.specs.Registers.{word, copied, constant, address_of, frame_address, load_from, store_to, place_of, operand_register, operand_lines, loaded, load_scalar, store_scalar, sign_spread, read_global, write_global}
use Rattle.pw_select_lines.specs.Arithmetic.{unary_word, extension_word}
use Rattle.pw_select_lines.specs.Operations.{Layout, layout, op_lines, web_op_lines, called, called_by_value, call_result}
use Rattle.pw_select.specs.Selection.{saved_lines, entered_web, lines_of_web, entered_lines, loaded_web, stored_back, webs_loaded, webs_stored, incoming, parameter_in, parameters_in, frame_end, entry_lines, prologue, frame_left, epilogue, end_lines, block_lines, blocks_lines, slot_offsets, selected}
use Rattle.pw_select_lines.proofs.Placeable.{Fits, below_fits, PlaceGood, joined, copied_good, constant_good, address_good, load_good, store_good, frame_address_good, place_good, operand_good, operand_register_good, loaded_good, load_scalar_good, store_scalar_good, sign_good, read_good, write_good}
use Rattle.pw_select_lines.proofs.PlaceableArithmetic.{with_none_good, with_one_good, unary_good, extension_good, binary_by_good}
use Rattle.pw_select_lines.proofs.PlaceableOps.{moved_good, places_good, called_good, called_by_value_good, call_result_good}

-- the places are registers, and the offsets numbers of 32 bits
pub record LayoutGood (l : Layout) : Type 0 where
  pub places : AllByRecursion PlaceGood l.places
  pub slots : AllByRecursion Fits l.slots

slot_fits : (slots : List ℤ) (s : ℕ) → AllByRecursion Fits slots → Fits (unwrap_or (slice_get slots s) (pos 0))
slot_fits [] s h = omega arith
slot_fits (z ∷ rest) zero h = h.0
slot_fits (z ∷ rest) (suc s) h = slot_fits rest s h.1

op_good : (l : Layout) (temps slots : ℕ) (o : Op) → LayoutGood l → IsOp temps slots o → AreLines (op_lines l o)
op_good l temps slots (op.Const t n) g h = with_none_good (place_of l.places t) (constant n) (place_good l.places t g.places) (λ d hd. constant_good n d h.1 hd)
op_good l temps slots (op.Copy t a) g h = with_one_good (place_of l.places a) (place_of l.places t) copied (place_good l.places a g.places) (place_good l.places t g.places) copied_good
op_good l temps slots (op.Un k t a) g h = with_one_good (place_of l.places a) (place_of l.places t) (λ a d. word (unary_word k a d)) (place_good l.places a g.places) (place_good l.places t g.places) (λ r d hr hd. (unary_good k r d hr hd, tt))
op_good l temps slots (op.Bin k t a b) g h = binary_by_good k (place_of l.places a) (place_of l.places b) (place_of l.places t) (place_good l.places a g.places) (place_good l.places b g.places) (place_good l.places t g.places)
op_good l temps slots (op.Ext k t a) g h = with_one_good (place_of l.places a) (place_of l.places t) (λ a d. word (extension_word k a d)) (place_good l.places a g.places) (place_good l.places t g.places) (λ r d hr hd. (extension_good k r d hr hd, tt))
op_good l temps slots (op.AddrGlobal t x n) g h = with_none_good (place_of l.places t) (address_of (Named x) n) (place_good l.places t g.places) (λ d hd. address_good (Named x) n d hd)
op_good l temps slots (op.AddrSlot t s) g h = with_none_good (place_of l.places t) (frame_address (unwrap_or (slice_get l.slots s) (pos 0))) (place_good l.places t g.places) (λ d hd. frame_address_good (unwrap_or (slice_get l.slots s) (pos 0)) d (slot_fits l.slots s g.slots) hd)
op_good l temps slots (op.AddrFn t f) g h = with_none_good (place_of l.places t) (address_of (Named f) 0) (place_good l.places t g.places) (λ d hd. address_good (Named f) 0 d hd)
op_good l temps slots (op.LoadG t x k) g h = with_none_good (place_of l.places t) (read_global x k) (place_good l.places t g.places) (λ d hd. read_good x k d hd)
op_good l temps slots (op.StoreG x a k) g h =
    let p = place_of l.places a in
    let hp = place_good l.places a g.places in
    joined (operand_lines p 22) (write_global x k (operand_register p 22)) (operand_good p 22 hp (omega arith)) (write_good x k (operand_register p 22) (operand_register_good p 22 hp (omega arith)))
op_good l temps slots (op.Load k t a) g h = with_one_good (place_of l.places a) (place_of l.places t) (λ a d. Plain (load_scalar k (pos 0) a d) ∷ sign_spread k d) (place_good l.places a g.places) (place_good l.places t g.places) (λ r d hr hd. (load_scalar_good k r d hr hd, sign_good k d hd))
op_good l temps slots (op.Store k a b) g h =
    let p = place_of l.places a in
    let q = place_of l.places b in
    let hp = place_good l.places a g.places in
    let hq = place_good l.places b g.places in
    joined (operand_lines p 22 ++ operand_lines q 21) (word (store_scalar k (operand_register q 21) (pos 0) (operand_register p 22)))
    (joined (operand_lines p 22) (operand_lines q 21) (operand_good p 22 hp (omega arith)) (operand_good q 21 hq (omega arith)))
    (store_scalar_good k (operand_register q 21) (operand_register p 22) (operand_register_good q 21 hq (omega arith)) (operand_register_good p 22 hp (omega arith)), tt)
op_good l temps slots (op.Move a b size unit) g h =
    let few = h.2.few in
    let small : size < 2 ^ 32 = omega arith in
    moved_good (place_of l.places a) (place_of l.places b) size unit (place_good l.places a g.places) (place_good l.places b g.places) small h.2.units
op_good l temps slots (op.Call t f args) g h =
    joined (called f (map (place_of l.places) args)) (call_result l.places t) (called_good f (map (place_of l.places) args) (places_good l.places args g.places)) (call_result_good l.places t g.places)
op_good l temps slots (op.CallInd t a shape args) g h =
    joined (called_by_value (place_of l.places a) (map (place_of l.places) args)) (call_result l.places t) (called_by_value_good (place_of l.places a) (map (place_of l.places) args) (place_good l.places a g.places) (places_good l.places args g.places)) (call_result_good l.places t g.places)

-- ---- webs

-- the webs have registers that a callee keeps
abbrev WebsGood : List (Web × Role) → Type 0
WebsGood webs = AllByRecursion IsWeb (map (λ w. w.0) webs)

entered_good : (lines : Web → List Line) (webs : List (Web × Role)) (r : ℕ) → ((w : Web) → IsWeb w → AreLines (lines w)) → WebsGood webs → AreLines (lines_of_web lines (entered_web webs r))
entered_good lines [] r each h = tt
entered_good lines (w ∷ rest) r each h = by ((w.0.reg == r) && is_entry w.1) (entered_good lines rest r each h.1)
  where
    by : (t : Bool) → AreLines (lines_of_web lines (entered_web rest r)) → AreLines (lines_of_web lines (if t then Some w.0 else entered_web rest r))
    by true more = each w.0 h.0
    by false more = more

all_entered_good : (lines : Web → List Line) (webs : List (Web × Role)) (r more : ℕ) → ((w : Web) → IsWeb w → AreLines (lines w)) → WebsGood webs → AreLines (entered_lines lines webs r more)
unfolding entered_lines
all_entered_good lines webs r zero each h = tt
all_entered_good lines webs r (suc more) each h =
    joined (lines_of_web lines (entered_web webs r)) (entered_lines lines webs (suc r) more) (entered_good lines webs r each h) (all_entered_good lines webs (suc r) more each h)

loaded_web_good : (w : Web) → IsWeb w → AreLines (loaded_web w)
loaded_web_good w h = let high = h.high in read_good w.global w.kind w.reg (omega arith)

stored_back_good : (w : Web) → IsWeb w → AreLines (stored_back w)
stored_back_good w h = by w.writes
  where
    by : (t : Bool) → AreLines (if t then write_global w.global w.kind w.reg else [])
    by true = let high = h.high in write_good w.global w.kind w.reg (omega arith)
    by false = tt

register_at : (webs : List (Web × Role)) (k r : ℕ) → WebsGood webs → k < length (map (λ w. w.0.reg) webs) → slice_index_or (map (λ w. w.0.reg) webs) k r ≡ r → r < 32
register_at [] k r h lt e = omega arith
register_at (w ∷ rest) zero r h lt e = let high = h.0.high in omega arith
register_at (w ∷ rest) (suc k) r h lt e = register_at rest k r h.1 (omega arith) e

register_small : (webs : List (Web × Role)) (r : ℕ) → WebsGood webs → Contains (map (λ w. w.0.reg) webs) r → r < 32
register_small webs r h has = register_at webs has.0 r h has.1 has.2

web_op_good : (f : WebFn) (l : Layout) (o : WebOp) → LayoutGood l → IsDirectives f.directives → IsWebOp f o → AreLines (web_op_lines l o)
web_op_good f l (Flow o) g d h = op_good l f.temps (length f.slots) o g h
web_op_good f l (Read t r) g d h =
    with_none_good (place_of l.places t) (copied r) (place_good l.places t g.places) (λ x hx. copied_good r x (register_small f.directives.webs r d.each h.1) hx)
web_op_good f l (Write r a) g d h =
    let p = place_of l.places a in
    let hp = place_good l.places a g.places in
    joined (operand_lines p 22) (copied (operand_register p 22) r) (operand_good p 22 hp (omega arith)) (copied_good (operand_register p 22) r (operand_register_good p 22 hp (omega arith)) (register_small f.directives.webs r d.each h.0))

-- ---- prologue and epilogue

saved_good : (move : ℤ → ℕ → List Line) (head k : ℕ) (saved : List ℕ) → ((n r : ℕ) → r < 32 → AreLines (move (below n) r)) → AllByRecursion (λ r. r < 32) saved → AreLines (saved_lines move head k saved)
saved_good move head k [] each h = tt
saved_good move head k (r ∷ rest) each h =
    joined (move (below (head + 4 * (k + 1))) r) (saved_lines move head (k + 1) rest) (each (head + 4 * (k + 1)) r h.0) (saved_good move head (k + 1) rest each h.1)

incoming_good : (frame k d : ℕ) → d < 32 → AreLines (incoming frame k d)
incoming_good frame k d hd = by (nat_lt k 4)
  where
    by : (t : Bool) → AreLines (if t then copied (26 - k) d else load_from (below (frame + 52 + 4 * (k - 4))) d)
    by true = copied_good (26 - k) d (omega arith) hd
    by false = load_good (below (frame + 52 + 4 * (k - 4))) d (below_fits (frame + 52 + 4 * (k - 4))) hd

frame_end_good : (frame : ℕ) → frame < 2 ^ 21 → AreLines (frame_end frame)
unfolding IsInRange
frame_end_good frame h = by (nat_lt near_limit frame) refl
  where
    by : (t : Bool) → nat_lt near_limit frame ≡ t → AreLines (if t then constant frame 1 ++ word (i.Addl 30 1 1) else word (i.Ldo (pos frame) 30 1))
    by true e = joined (constant frame 1) (word (i.Addl 30 1 1)) (constant_good frame 1 (omega arith) (omega arith)) ((omega arith, omega arith, omega arith), tt)
    by false e = let small : frame ≤ near_limit = grind (arith, nat_tests) in (((omega (arith, ints), omega (arith, ints)), omega arith, omega arith), tt)

below_small : (n : ℕ) → n ≤ near_least → IsSigned 14 (below n)
below_small zero h = (omega (arith, ints), omega (arith, ints))
below_small (suc n) h = (omega (arith, ints), omega (arith, ints))

frame_left_good : (frame : ℕ) → frame < 2 ^ 21 → AreLines (frame_left frame)
unfolding IsInRange
frame_left_good frame h = by (nat_lt near_least frame) refl
  where
    by : (t : Bool) → nat_lt near_least frame ≡ t → AreLines (if t then constant frame 1 ++ word (i.Sub 30 1 30) else word (i.Ldo (below frame) 30 30))
    by true e = joined (constant frame 1) (word (i.Sub 30 1 30)) (constant_good frame 1 (omega arith) (omega arith)) ((omega arith, omega arith, omega arith), tt)
    by false e = let small : frame ≤ near_least = grind (arith, nat_tests) in ((below_small frame small, omega arith, omega arith), tt)

parameter_good : (frame k : ℕ) (p : Place) → PlaceGood p → AreLines (parameter_in frame k p)
parameter_good frame k (Reg r) h = incoming_good frame k r h
parameter_good frame k (Slot offset) h =
    joined (incoming frame k 22) (store_to offset 22) (incoming_good frame k 22 (omega arith)) (store_good offset 22 h (omega arith))

parameters_good : (frame : ℕ) (places : List Place) (k more : ℕ) → AllByRecursion PlaceGood places → AreLines (parameters_in frame places k more)
parameters_good frame places k zero h = tt
parameters_good frame places k (suc more) h =
    joined (parameter_in frame k (place_of places k)) (parameters_in frame places (suc k) more) (parameter_good frame k (place_of places k) (place_good places k h)) (parameters_good frame places (suc k) more h)

entry_good : (frame : ℕ) → frame < 2 ^ 21 → AreLines (entry_lines frame)
unfolding IsInRange
entry_good frame h =
    joined (address_of StackLimit 0 21 ++ frame_end frame) (Plain (i.Comclr 5 false 1 21 0) ∷ Plain (i.Break 0 4) ∷ Plain (i.Stw 2 (negsuc 19) 30) ∷ copied 1 30)
    (joined (address_of StackLimit 0 21) (frame_end frame) (address_good StackLimit 0 21 (omega arith)) (frame_end_good frame h))
    ((omega arith, omega arith, omega arith, omega arith), ((omega arith, omega arith), (((omega (arith, ints), omega (arith, ints)), omega arith, omega arith), copied_good 1 30 (omega arith) (omega arith))))

-- what is known of a lawful function
pub record Good (f : Located) : Type 0 where
  pub body : IsWebFn f.body
  pub frame : f.frame < 2 ^ 21
  pub saved : AllByRecursion (λ r. r < 32) f.saved
  pub layout : LayoutGood (layout f.places (slot_offsets f))

prologue_good : (f : Located) → Good f → AreLines (prologue f)
prologue_good f g =
    let head = head_size f.body in
    let webs = f.body.directives.webs in
    let saves = saved_lines store_to head 0 f.saved in
    joined (entry_lines f.frame ++ saves ++ webs_loaded webs) (parameters_in f.frame f.places 0 f.body.params)
    (joined (entry_lines f.frame ++ saves) (webs_loaded webs)
    (joined (entry_lines f.frame) saves (entry_good f.frame g.frame) (saved_good store_to head 0 f.saved (λ n r hr. store_good (below n) r (below_fits n) hr) g.saved))
    (all_entered_good loaded_web webs first_register register_count loaded_web_good g.body.directives.each))
    (parameters_good f.frame f.places 0 f.body.params g.layout.places)

epilogue_good : (f : Located) → Good f → AreLines (epilogue f)
epilogue_good f g =
    let head = head_size f.body in
    let webs = f.body.directives.webs in
    let restores = saved_lines load_from head 0 f.saved in
    let back = load_from (below (f.frame + 20)) 2 in
    joined (webs_stored webs ++ restores ++ back ++ frame_left f.frame) (Leave ∷ [])
    (joined (webs_stored webs ++ restores ++ back) (frame_left f.frame)
    (joined (webs_stored webs ++ restores) back
    (joined (webs_stored webs) restores
    (all_entered_good stored_back webs first_register register_count stored_back_good g.body.directives.each)
    (saved_good load_from head 0 f.saved (λ n r hr. load_good (below n) r (below_fits n) hr) g.saved))
    (load_good (below (f.frame + 20)) 2 (below_fits (f.frame + 20)) (omega arith)))
    (frame_left_good f.frame g.frame))
    (tt, tt)

-- ---- blocks

end_good : (f : Located) (e : End) → Good f → AreLines (end_lines f e)
end_good f (end.Jump b) g = (tt, tt)
end_good f (end.Branch a b c) g =
    let p = place_of f.places a in
    let hp = place_good f.places a g.layout.places in
    joined (operand_lines p 22) (BranchNonZero (operand_register p 22) b ∷ Jump c ∷ []) (operand_good p 22 hp (omega arith)) (operand_register_good p 22 hp (omega arith), (tt, tt))
end_good f (end.Return None) g = epilogue_good f g
end_good f (end.Return (Some a)) g =
    joined (loaded (place_of f.places a) 28) (epilogue f) (loaded_good (place_of f.places a) 28 (place_good f.places a g.layout.places) (omega arith)) (epilogue_good f g)

ops_good : (f : WebFn) (l : Layout) (ops : List WebOp) → LayoutGood l → IsDirectives f.directives → AllByRecursion (IsWebOp f) ops → AreLines (flat_map (web_op_lines l) ops)
ops_good f l [] g d h = tt
ops_good f l (o ∷ rest) g d h = joined (web_op_lines l o) (flat_map (web_op_lines l) rest) (web_op_good f l o g d h.0) (ops_good f l rest g d h.1)

blocks_good : (f : Located) (n : ℕ) (blocks : List WebBlock) → Good f → AllByRecursion (IsWebBlock f.body) blocks → AreLines (blocks_lines f (slot_offsets f) n blocks)
blocks_good f n [] g h = tt
blocks_good f n (b ∷ rest) g h =
    let l = layout f.places (slot_offsets f) in
    joined (block_lines f (slot_offsets f) n b) (blocks_lines f (slot_offsets f) (n + 1) rest)
    (tt, joined (flat_map (web_op_lines l) b.ops) (end_lines f b.end) (ops_good f.body l b.ops g.layout g.body.directives h.0.ops) (end_good f b.end g))
    (blocks_good f (n + 1) rest g h.1)

pub selected_good : (f : Located) → Good f → AreLines (selected f)
unfolding selected
selected_good f g =
    joined (prologue f) (blocks_lines f (slot_offsets f) 0 f.body.blocks) (prologue_good f g) (blocks_good f 0 f.body.blocks g g.body.blocks)

-- ---- lawful functions are good

kept_small : (rs : List ℕ) → AllByRecursion (λ r. (first_register ≤ r) × (r ≤ last_register)) rs → AllByRecursion (λ r. r < 32) rs
kept_small [] h = tt
kept_small (r ∷ rs) h = (omega (arith, h.0.1), kept_small rs h.1)

place_of_located : (f : Located) (p : Place) → IsPlace f p → PlaceGood p
place_of_located f (Reg r) h = let high = h.1 in omega arith
place_of_located f (Slot offset) h =
    subst Fits (sym h.1.1) (below_fits (head_size f.body + 4 * length f.saved + 4 * (h.0 + 1)))

places_of_located : (f : Located) (places : List Place) → AllByRecursion (IsPlace f) places → AllByRecursion PlaceGood places
places_of_located f [] h = tt
places_of_located f (p ∷ rest) h = (place_of_located f p h.0, places_of_located f rest h.1)

pub all_below_fit : (ns : List ℕ) → AllByRecursion Fits (map below ns)
all_below_fit [] = tt
all_below_fit (n ∷ rest) = (below_fits n, all_below_fit rest)

located_good : (f : Located) → IsLocated f → Good f
located_good f h = record {
  body = h.body;
  frame = subst (λ n. n < 2 ^ 21) (sym h.frame) (located_fits f h).reach;
  saved = kept_small f.saved h.saved.kept;
  layout = record {
    places = places_of_located f f.places h.places;
    slots = all_below_fit (reaches_from (slots_begin (head_size f.body) (length f.saved) (in_frame f.places)) f.body.slots);
  };
}

pub lawful_lines : (f : Located) → IsLocated f → AreLines (selected f)
lawful_lines f h = selected_good f (located_good f h)
