-- Where blocks begin, and the items that lead there.
use Rattle.std.proofs.Common.{ℕ, ℤ, pos, zero, suc, ◌≡◌, ◌≢◌, ◌+◌, ◌⊎◌, inl, inr, arith, refl, ap, sym, ◌∙◌, Bool, true, false, if◌then◌else◌, ◌==◌, Option, Some, None, List, [], ◌∷◌, ◌++◌, map, drop, slice_get, append_assoc}
use Rattle.std.specs.List.{AllByRecursion, flat_map}
use Rattle.std.proofs.lemmas.Bool.{ne_eqb, eq-eqb, eqb-true, cases_eq}
use Rattle.pw_inst.specs.declared.Inst.{Inst}
use Rattle.pw_inst.specs.declared.Inst.TheVariants as i
use Rattle.pw_inst.specs.declared.line.Line.{Line}
use Rattle.pw_inst.specs.declared.line.Line.TheVariants as line
use Rattle.pw_webflow.specs.declared.web.WebBlock.{WebBlock}
use Rattle.pw_alloc.specs.declared.located.Place.{Place}
use Rattle.pw_alloc.specs.declared.located.Place.TheVariants.{Slot, Reg}
use Rattle.pw_alloc.specs.declared.located.Located.{Located}
use Rattle.pw_delay.specs.declared.items.Turn.TheVariants.{Goto, If}
use Rattle.pw_delay.specs.declared.items.Item.{Item}
use Rattle.pw_delay.specs.declared.items.Item.TheVariants.{Plain, Turns, Mark}
use Rattle.pw_delay.specs.Items.{begins_next, before, plain_item, slotted}
use Rattle.pw_inst.specs.Registers.{help, first, stack_pointer}
use Rattle.pw_select_lines.specs.Registers.{Reach, word, is_near, as_word, long_constant, operand_register, operand_lines}
use Rattle.pw_select_lines.specs.Operations.{layout, web_op_lines}
use Rattle.pw_select.specs.Selection.{slot_offsets, prologue, end_lines, blocks_lines, selected}
use Rattle.pw_law_select_walk.specs.Rows.{KnowsBlock}
use Rattle.pw_law_select_walk.proofs.EachLine.{Anything, AreRows, anything, prologue_rows, block_rows}
use Rattle.pw_run_languages.specs.Addresses.{Addresses}
use Rattle.pw_run_languages.specs.Acts.{Core, register}
use Rattle.pw_run_languages.specs.LineRun.{LineProgram, Machine, On, Astray, left_behind, counted, from_mark, goes_to, step}
use Rattle.pw_law_select_rows.specs.Straight.{words_of, IsStraight, StraightLinesAreWords}
use Rattle.pw_law_select_rows.specs.Places.{place_word, IsInReach, OperandsAreLoaded}
use Rattle.pw_law_select_states.specs.Passes.{Passes, further}
use Rattle.pw_law_select_frames.specs.Blocks.{blocks_behind, items_from, jump_count, LeadsTo, BranchesWith}
use Rattle.pw_law_select_frames.proofs.Known.{Known}
use Rattle.pw_law_select_frames.proofs.Going.{loads_go}
use Rattle.pw_law_select_frames.proofs.Passing.{words_pass, item_passes, passes_then}

-- how a word of the frame is reached, by the test
abbrev pub reach_by : Bool → ℤ → Reach
reach_by t offset =
    if t
    then record { before = []; base = stack_pointer; displacement = offset }
    else record { before = long_constant (as_word offset) help ++ word (i.Addl stack_pointer help help); base = help; displacement = pos 0 }

pub offset_straight : (near : Bool) (offset : ℤ) (d : ℕ) → AllByRecursion IsStraight ((reach_by near offset).before ++ line.Plain (i.Ldw (reach_by near offset).displacement (reach_by near offset).base d) ∷ [])
offset_straight true offset d = (tt, tt)
offset_straight false offset d = (tt, (tt, (tt, (tt, tt))))

-- ---- marks

plain_past : (b : ℕ) (x : Inst) (r : List Item) → from_mark b (plain_item x ∷ r) ≡ from_mark b r
plain_past b (i.Combf c r1 r2 disp) r = refl
plain_past b _ r = refl

jump_past : (b c : ℕ) (r : List Item) (t : Bool) → from_mark b (before (if t then None else Some (Turns (Goto c) None)) r) ≡ from_mark b r
jump_past b c r true = refl
jump_past b c r false = refl

-- no block begins in a row
rows_past : (b : ℕ) (xs rest : List Line) → AreRows Anything Anything xs → from_mark b (slotted (xs ++ rest)) ≡ from_mark b (slotted rest)
rows_past b [] rest h = refl
rows_past b (line.Plain x ∷ xs) rest h = plain_past b x (slotted (xs ++ rest)) ∙ rows_past b xs rest h.1
rows_past b (line.Fixed x k s n ∷ xs) rest h = rows_past b xs rest h.1
rows_past b (line.Jump c ∷ xs) rest h = jump_past b c (slotted (xs ++ rest)) (begins_next c (xs ++ rest)) ∙ rows_past b xs rest h.1
rows_past b (line.BranchNonZero r c ∷ xs) rest h = rows_past b xs rest h.1
rows_past b (line.Label c ∷ xs) rest h = absurd h.0
rows_past b (line.CallTo s r ∷ xs) rest h = rows_past b xs rest h.1
rows_past b (line.CallReg ∷ xs) rest h = rows_past b xs rest h.1
rows_past b (line.Leave ∷ xs) rest h = rows_past b xs rest h.1

abbrev own_lines : Located → List ℤ → WebBlock → List Line
own_lines f slots b = flat_map (web_op_lines (layout f.places slots)) b.ops ++ end_lines f b.end

mark_if : (m n : ℕ) (r : List Item) (t : Bool) → (n == m) ≡ t → from_mark m (Mark n ∷ r) ≡ (if t then Some r else from_mark m r)
mark_if m n r t e = ap (λ (t : Bool). if t then Some r else from_mark m r) e

module _ (f : Located) (slots : List ℤ) where
  block_there : (n k m : ℕ) (blocks : List WebBlock) (block : WebBlock) → AllByRecursion (KnowsBlock Anything Anything) blocks → slice_get blocks k ≡ Some block → m ≡ n + k
      → from_mark m (slotted (blocks_lines f slots n blocks)) ≡ Some (slotted (own_lines f slots block ++ blocks_lines f slots (m + 1) (drop (suc k) blocks)))
  block_there n k m [] block own e at = absurd cc
  block_there n zero m (x ∷ rest) block own e at =
      let same : n ≡ m = omega (arith, at) in
      let is : x ≡ block = cc in
      mark_if m n (slotted (own_lines f slots x ++ blocks_lines f slots (n + 1) rest)) true (eq-eqb n m same)
      ∙ (ap (λ (b : WebBlock). Some (slotted (own_lines f slots b ++ blocks_lines f slots (n + 1) rest))) is
      ∙ ap (λ k. Some (slotted (own_lines f slots block ++ blocks_lines f slots (k + 1) rest))) same)
  block_there n (suc k) m (x ∷ rest) block own e at =
      mark_if m n (slotted (own_lines f slots x ++ blocks_lines f slots (n + 1) rest)) false (ne_eqb n m (λ e. omega (arith, e, at)))
      ∙ (rows_past m (own_lines f slots x) (blocks_lines f slots (n + 1) rest) (block_rows Anything Anything f slots (anything f).webs x own.0)
      ∙ block_there (n + 1) k m rest block own.1 e (omega (arith, at)))

pub block_begins : (f : Located) (b : ℕ) (block : WebBlock) → slice_get f.body.blocks b ≡ Some block
    → from_mark b (slotted (selected f)) ≡ Some (items_from f b block.ops block.end)
unfolding selected
block_begins f b block e =
    let known = anything f in
    let next : suc b ≡ b + 1 = omega arith in
    rows_past b (prologue f) (blocks_lines f (slot_offsets f) 0 f.body.blocks) (prologue_rows Anything Anything f known.webs)
    ∙ (block_there f (slot_offsets f) 0 b b f.body.blocks block known.blocks e (omega arith)
    ∙ ap (λ k. Some (slotted (own_lines f (slot_offsets f) block ++ blocks_lines f (slot_offsets f) (b + 1) (drop k f.body.blocks)))) next)

-- what is left behind a mark is a part of the items
pub mark_splits : (b : ℕ) (items rest : List Item) → from_mark b items ≡ Some rest → (before : List Item) × (items ≡ before ++ Mark b ∷ rest)
mark_splits b [] rest e = absurd cc
mark_splits b (Plain x ∷ items) rest e = let s = mark_splits b items rest e in (Plain x ∷ s.0, ap (λ (l : List Item). Plain x ∷ l) s.1)
mark_splits b (Turns t u ∷ items) rest e = let s = mark_splits b items rest e in (Turns t u ∷ s.0, ap (λ (l : List Item). Turns t u ∷ l) s.1)
mark_splits b (Mark n ∷ items) rest e = by_test (λ (k : from_mark b items ≡ Some rest). mark_splits b items rest k) (n == b) refl e
  where
    by_test : (from_mark b items ≡ Some rest → (before : List Item) × (items ≡ before ++ Mark b ∷ rest))
        → (t : Bool) → (n == b) ≡ t → (if t then Some items else from_mark b items) ≡ Some rest → (before : List Item) × (Mark n ∷ items ≡ before ++ Mark b ∷ rest)
    by_test later true is e =
        let same : n ≡ b = eqb-true n b is in
        let all : items ≡ rest = cc in
        ([], ap (λ (l : List Item). Mark n ∷ l) all ∙ ap (λ k. Mark k ∷ rest) same)
    by_test later false is e = let s = later e in (Mark n ∷ s.0, ap (λ (l : List Item). Mark n ∷ l) s.1)

-- ---- jumps

-- the next block, or none
pub dropped_at : (k : ℕ) (xs : List WebBlock) (x : WebBlock) → slice_get xs k ≡ Some x → drop k xs ≡ x ∷ drop (suc k) xs
dropped_at k [] x e = absurd cc
dropped_at zero (y ∷ ys) x e = let same : y ≡ x = cc in ap (λ (b : WebBlock). b ∷ ys) same
dropped_at (suc k) (y ∷ ys) x e = dropped_at k ys x e

begins_other : (f : Located) (slots : List ℤ) (b n : ℕ) (blocks : List WebBlock) → b ≢ n → begins_next b (blocks_lines f slots n blocks) ≡ false
begins_other f slots b n [] ne = refl
begins_other f slots b n (x ∷ rest) ne = ne_eqb n b (λ e. ne (sym e))

module _ (p : LineProgram) (w : Addresses) (scratch : ℕ → (ℕ → ℕ) → ℕ → ℕ) where
  pub mark_step : (b : ℕ) (rest : List Item) (m : Machine) → step p w scratch (left_behind (Mark b ∷ rest) m) ≡ On (left_behind rest m)
  unfolding step
  mark_step b rest m = refl

  goto_step : (b : ℕ) (rest : List Item) (m : Machine)
      → step p w scratch (left_behind (Turns (Goto b) None ∷ rest) m)
      ≡ (if m.core.skip then Astray else goes_to (from_mark b m.frame.function.items) (counted (left_behind (Turns (Goto b) None ∷ rest) m)))
  unfolding step
  goto_step b rest m = refl

  if_step : (r b : ℕ) (rest : List Item) (m : Machine)
      → step p w scratch (left_behind (Turns (If r b) None ∷ rest) m)
      ≡ (if m.core.skip then Astray else
      (if register m.core r == 0 then On (left_behind rest m) else goes_to (from_mark b m.frame.function.items) (counted (left_behind (Turns (If r b) None ∷ rest) m))))
  unfolding step
  if_step r b rest m = refl

  pub stays_on : (rest : List Item) (m : Machine) → On (left_behind rest m) ≡ On (further rest m.core 0 [] m)
  stays_on rest m = let none : m.events ≡ m.events + 0 = omega arith in ap (λ n. On (record (left_behind rest m) { events = n })) none

  -- to a block that begins somewhere among the items
  to_mark : (b : ℕ) (items : List Item) (left : List Item) (m : Machine) → from_mark b m.frame.function.items ≡ Some items
      → goes_to (from_mark b m.frame.function.items) (counted (left_behind left m)) ≡ On (further items m.core 1 [] m)
  to_mark b items left m e = ap (λ (o : Option (List Item)). goes_to o (counted (left_behind left m))) e

  abbrev behind_mark : (b more : ℕ) (items : List Item) (core : Core) (m : Machine) → from_mark b m.frame.function.items ≡ Some items
      → step p w scratch m ≡ On (further items core more [] m) → Passes p w scratch m items core []
  behind_mark b more items core m e is =
      let s = mark_splits b m.frame.function.items items e in
      item_passes p w scratch (Mark b) s.0 items core more m (λ h. h) s.1 is

  pub jump_leads : (l : Machine) (f : Located) (block b : ℕ) (next : WebBlock)
      → l.frame.function.items ≡ slotted (selected f) → l.frame.left ≡ slotted (line.Jump b ∷ blocks_behind f block) → l.core.skip ≡ false
      → slice_get f.body.blocks b ≡ Some next → LeadsTo p w scratch l f b next l.core (jump_count block b)
  jump_leads l f block b next items left skip there = by_place (cases_eq b (block + 1))
    where
      mark : from_mark b l.frame.function.items ≡ Some (items_from f b next.ops next.end)
      mark = ap (from_mark b) items ∙ block_begins f b next there

      -- the block is the next
      near : b ≡ block + 1 → LeadsTo p w scratch l f b next l.core (jump_count block b)
      near same =
          let slots = slot_offsets f in
          let later : drop b f.body.blocks ≡ next ∷ drop (b + 1) f.body.blocks =
          dropped_at b f.body.blocks next there ∙ (let e : suc b ≡ b + 1 = omega arith in ap (λ k. next ∷ drop k f.body.blocks) e) in
          let behind : blocks_behind f block ≡ line.Label b ∷ (own_lines f slots next ++ blocks_lines f slots (b + 1) (drop (b + 1) f.body.blocks)) =
          ap (λ k. blocks_lines f slots k (drop k f.body.blocks)) (sym same) ∙ ap (blocks_lines f slots b) later in
          let rest = items_from f b next.ops next.end in
          let is : l.frame.left ≡ Mark b ∷ rest =
          left ∙ (ap (λ (ls : List Line). slotted (line.Jump b ∷ ls)) behind
          ∙ ap (λ (t : Bool). before (if t then None else Some (Turns (Goto b) None)) (Mark b ∷ rest)) (eq-eqb b b refl)) in
          let goes : step p w scratch l ≡ On (further rest l.core 0 [] l) =
          ap (λ (is : List Item). step p w scratch (left_behind is l)) is ∙ (mark_step b rest l ∙ stays_on rest l) in
          record {
            passes = behind_mark b 0 rest l.core l mark goes;
            counted = let none : jump_count block b ≡ 0 = ap (λ (t : Bool). if t then 0 else 1) (eq-eqb b (block + 1) same) in omega (arith, none);
          }

      far : (b ≡ block + 1 → ⊥) → LeadsTo p w scratch l f b next l.core (jump_count block b)
      far ne =
          let slots = slot_offsets f in
          let rest = items_from f b next.ops next.end in
          let behind = slotted (blocks_behind f block) in
          let is : l.frame.left ≡ Turns (Goto b) None ∷ behind =
          left ∙ ap (λ (t : Bool). before (if t then None else Some (Turns (Goto b) None)) behind) (begins_other f slots b (block + 1) (drop (block + 1) f.body.blocks) ne) in
          let goes : step p w scratch l ≡ On (further rest l.core 1 [] l) =
          ap (λ (is : List Item). step p w scratch (left_behind is l)) is
          ∙ (goto_step b behind l
          ∙ (ap (λ (t : Bool). if t then Astray else goes_to (from_mark b l.frame.function.items) (counted (left_behind (Turns (Goto b) None ∷ behind) l))) skip
          ∙ to_mark b rest (Turns (Goto b) None ∷ behind) l mark)) in
          record {
            passes = behind_mark b 1 rest l.core l mark goes;
            counted = let one : jump_count block b ≡ 1 = ap (λ (t : Bool). if t then 0 else 1) (ne_eqb b (block + 1) ne) in omega (arith, one);
          }

      by_place : (b ≡ block + 1) ⊎ (b ≡ block + 1 → ⊥) → LeadsTo p w scratch l f b next l.core (jump_count block b)
      by_place (inl same) = near same
      by_place (inr ne) = far ne

  -- ---- branches

  operand_straight : (a : Place) (d : ℕ) → AllByRecursion IsStraight (operand_lines a d)
  operand_straight (Reg r) d = tt
  operand_straight (Slot offset) d = offset_straight (is_near offset) offset d

  pub branch_leads : (known : Known) (lines : StraightLinesAreWords) (operands : OperandsAreLoaded) (l : Machine) (f : Located) (block b c : ℕ) (a : Place) (before : List Item)
      → l.frame.function.items ≡ slotted (selected f) → l.frame.function.items ≡ before ++ l.frame.left
      → l.frame.left ≡ slotted (operand_lines a first ++ line.BranchNonZero (operand_register a first) b ∷ line.Jump c ∷ blocks_behind f block)
      → l.core.skip ≡ false → IsInReach p w l.core a → BranchesWith p w scratch l f block b c a
  branch_leads known lines operands l f block b c a before items inside left skip reach =
      let r = operand_register a first in
      let v = place_word l.core a in
      let row = operand_lines a first in
      let loads = operands p w a first l.core (λ e. omega (arith, e)) skip reach in
      let jump = slotted (line.Jump c ∷ blocks_behind f block) in
      let is : l.frame.left ≡ map Plain (words_of row) ++ (Turns (If r b) None ∷ jump) =
      left ∙ lines row (line.BranchNonZero r b ∷ line.Jump c ∷ blocks_behind f block) (operand_straight a first) in
      let one : Passes p w scratch l (Turns (If r b) None ∷ jump) loads.core [] =
      words_pass p w scratch known (words_of row) before (Turns (If r b) None ∷ jump) loads.core [] l is inside (loads_go p w (words_of row) r v l.core loads) in
      let mid : Machine = further (Turns (If r b) None ∷ jump) loads.core one.more [] l in
      let whole : l.frame.function.items ≡ (before ++ map Plain (words_of row)) ++ (Turns (If r b) None ∷ jump) =
      inside ∙ (ap (λ (ls : List Item). before ++ ls) is ∙ sym (append_assoc before (map Plain (words_of row)) (Turns (If r b) None ∷ jump))) in
      let goes : step p w scratch mid
      ≡ (if register loads.core r == 0 then On (left_behind jump mid) else goes_to (from_mark b l.frame.function.items) (counted mid)) =
      if_step r b jump mid
      ∙ ap (λ (t : Bool). if t then Astray else (if register loads.core r == 0 then On (left_behind jump mid) else goes_to (from_mark b l.frame.function.items) (counted mid))) loads.skip in
      record {
        loads = loads;
        branches = record {
          zero = λ e next there.
              let test : (register loads.core r == 0) ≡ true = eq-eqb (register loads.core r) 0 (loads.value ∙ e) in
              let on : step p w scratch mid ≡ On (further jump loads.core 0 [] mid) =
              goes ∙ (ap (λ (t : Bool). if t then On (left_behind jump mid) else goes_to (from_mark b l.frame.function.items) (counted mid)) test ∙ stays_on jump mid) in
              let two : Passes p w scratch mid jump loads.core [] =
              item_passes p w scratch (Turns (If r b) None) (before ++ map Plain (words_of row)) jump loads.core 0 mid (λ h. h) whole on in
              let last : Machine = further jump loads.core two.more [] mid in
              let three = jump_leads last f block c next items refl loads.skip there in
              record {
                passes = passes_then p w scratch l (Turns (If r b) None ∷ jump) (items_from f c next.ops next.end) loads.core loads.core [] [] one
                    (passes_then p w scratch mid jump (items_from f c next.ops next.end) loads.core loads.core [] [] two three.passes);
                counted = let least = three.counted in omega (arith, least);
              };
          other = λ ne next there.
              let test : (register loads.core r == 0) ≡ false = ne_eqb (register loads.core r) 0 (λ e. ne (sym loads.value ∙ e)) in
              let mark : from_mark b l.frame.function.items ≡ Some (items_from f b next.ops next.end) = ap (from_mark b) items ∙ block_begins f b next there in
              let on : step p w scratch mid ≡ On (further (items_from f b next.ops next.end) loads.core 1 [] mid) =
              goes ∙ (ap (λ (t : Bool). if t then On (left_behind jump mid) else goes_to (from_mark b l.frame.function.items) (counted mid)) test
              ∙ ap (λ (o : Option (List Item)). goes_to o (counted mid)) mark) in
              let two = behind_mark b 1 (items_from f b next.ops next.end) loads.core mid mark on in
              record {
                passes = passes_then p w scratch l (Turns (If r b) None ∷ jump) (items_from f b next.ops next.end) loads.core loads.core [] [] one two;
                counted = omega arith;
              };
        };
      }
