-- Lawful functions can be selected.
use Rattle.std.proofs.Common.{◌≡◌, ℕ, ◌≤◌, ◌<◌, ◌^◌, inl, inr, List, [], ◌∷◌, length, sym, ◌∙◌, subst, arith}
use Rattle.std.specs.List.{AllByRecursion}
use Rattle.pw_flow.specs.ValidFlow.{IsUnit}
use Rattle.pw_flow.specs.declared.flow.Op.TheVariants as op
use Rattle.pw_webflow.specs.declared.web.WebOp.{WebOp}
use Rattle.pw_webflow.specs.declared.web.WebOp.TheVariants.{Flow, Read, Write}
use Rattle.pw_webflow.specs.declared.web.WebBlock.{WebBlock}
use Rattle.pw_webflow.specs.declared.web.WebFn.{WebFn}
use Rattle.pw_webflow.specs.ValidWebs.{IsWebOp, IsWebBlock}
use Rattle.pw_alloc.specs.declared.located.Located.{Located}
use Rattle.pw_db.specs.Limits.{register_count}
use Rattle.pw_alloc.specs.ValidPlaces.{IsLocated}
use Rattle.pw_alloc.specs.Allocation.{in_frame}
use Rattle.pw_alloc.specs.Frames.{head_size, slots_begin, last_reach}
use Rattle.pw_alloc.proofs.FrameLaws.{few_arguments, frame_fits}
use Rattle.pw_alloc.proofs.AllocationLaws.{located_fits}
use Rattle.pw_alloc.proofs.SavedLaws.{few_kept}
use Rattle.pw_select_lines.specs.Selectable.{IsSelectable}
use Rattle.pw_select.specs.Selectable.{IsSelectableBlock, IsFrame}

small_unit : (unit : ℕ) → IsUnit unit → unit ≤ 4
small_unit unit (inl e) = omega arith
small_unit unit (inr (inl e)) = omega arith
small_unit unit (inr (inr e)) = omega arith

op_selectable : (f : WebFn) (o : WebOp) → IsWebOp f o → IsSelectable o
op_selectable f (Flow (op.Move a b size unit)) h = (tt, small_unit unit h.2.units)
op_selectable f (Flow (op.Call t g args)) h = (h.1.few, tt)
op_selectable f (Flow (op.CallInd t a shape args)) h = (h.2.few, tt)
op_selectable f (Flow _) h = (tt, tt)
op_selectable f (Read t r) h = tt
op_selectable f (Write r a) h = tt

ops_selectable : (f : WebFn) (ops : List WebOp) → AllByRecursion (IsWebOp f) ops → AllByRecursion IsSelectable ops
ops_selectable f [] h = tt
ops_selectable f (o ∷ rest) h = (op_selectable f o h.0, ops_selectable f rest h.1)

pub blocks_selectable : (f : WebFn) (blocks : List WebBlock) → AllByRecursion (IsWebBlock f) blocks → AllByRecursion IsSelectableBlock blocks
blocks_selectable f [] h = tt
blocks_selectable f (b ∷ rest) h = (ops_selectable f b.ops h.0.ops, blocks_selectable f rest h.1)

-- a lawful frame is small
pub frame_lawful : (l : Located) → IsLocated l → IsFrame l
frame_lawful l h =
    let fits = located_fits l h in
    let words = fits.words in
    let reach : l.frame < 2 ^ 21 = subst (λ n. n < 2 ^ 21) (sym h.frame) fits.reach in
    let params = h.body.few_params in
    record { arguments = few_arguments l.body h.body; saved = omega arith; frame = omega arith }

-- what the frame is made of comes to less than 32 bits
pub few_places : (l : Located) → IsLocated l → length l.places < 2 ^ 32
few_places l h =
    let fits = frame_fits l.body 0 l.body.temps h.body (omega arith) (omega arith) in
    let words = fits.words in
    let count = h.count in
    omega arith

pub few_saved_registers : (l : Located) → IsLocated l → length l.saved ≤ register_count
few_saved_registers l h = few_kept l.body l.saved h.saved

pub reach_located : (l : Located) (begin head saved temps : ℕ) (slots : List ℕ) → IsLocated l → begin ≡ slots_begin head saved temps → head ≡ head_size l.body → saved ≡ length l.saved → temps ≡ in_frame l.places → slots ≡ l.body.slots → last_reach begin slots < 2 ^ 31
reach_located l begin head saved temps slots h b e s t same =
    let reach = (located_fits l h).reach in
    let start : begin ≡ slots_begin (head_size l.body) (length l.saved) (in_frame l.places) = b ∙ (λ i. slots_begin (e i) (s i) (t i)) in
    let all : last_reach begin slots ≡ last_reach (slots_begin (head_size l.body) (length l.saved) (in_frame l.places)) l.body.slots = λ i. last_reach (start i) (same i) in
    omega arith
