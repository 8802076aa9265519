-- The items of a selected function keep the stack pointer.
use Rattle.std.specs.Prelude.{ℕ, ℤ, ◌≡◌, ◌+◌, ◌≤◌, ◌⊎◌, nat_lt, ◌&&◌, not, Bool, true, false, if◌then◌else◌, Some, None, List, [], ◌∷◌, ◌++◌, length}
use Rattle.std.specs.List.{AllByRecursion, flat_map}
use Rattle.std.proofs.Common.{arith, subst, sym, ap, refl, ◌∙◌, inl, inr}
use Rattle.std.proofs.lemmas.List.{append_assoc}
use Rattle.pw_flow.specs.declared.flow.End.{End}
use Rattle.pw_flow.specs.declared.flow.End.TheVariants as end
use Rattle.pw_inst.specs.declared.Inst.{Inst}
use Rattle.pw_inst.specs.declared.Inst.TheVariants as i
use Rattle.pw_inst.specs.Limits.{near_least}
use Rattle.pw_inst.specs.declared.line.Line.{Line}
use Rattle.pw_inst.specs.declared.line.Line.TheVariants as line
use Rattle.pw_webflow.specs.declared.web.WebBlock.{WebBlock}
use Rattle.pw_alloc.specs.declared.located.Located.{Located}
use Rattle.pw_alloc.specs.Frames.{head_size, below, link_place}
use Rattle.pw_select_lines.specs.Registers.{word, constant, load_from, store_to, place_of, operand_register, operand_lines, loaded}
use Rattle.pw_select_lines.specs.Operations.{layout, web_op_lines}
use Rattle.pw_select.specs.Selection.{slot_offsets, saved_lines, webs_loaded, webs_stored, parameters_in, entry_lines, prologue, frame_left, epilogue, end_lines, blocks_lines, selected}
use Rattle.pw_delay.specs.declared.items.Word.{Word}
use Rattle.pw_delay.specs.declared.items.Turn.{Turn}
use Rattle.pw_delay.specs.declared.items.Turn.TheVariants.{Back, Goto, If, CallTo, CallReg, Leave}
use Rattle.pw_delay.specs.declared.items.Item.{Item}
use Rattle.pw_delay.specs.declared.items.Item.TheVariants.{Plain, Turns, Mark}
use Rattle.pw_delay.specs.Items.{bare, link_moved, begins_next, plain_item, before, slotted}
use Rattle.pw_delay.specs.Filling.{moves, drawn_near, compares, with_slot, filled}
use Rattle.pw_delay.specs.Parts.{compared_by, takes_first, PartsAlone}
use Rattle.pw_run_languages.specs.LineRun.{LineFn}
use Rattle.pw_run_languages.specs.SelectionLaws.{arranged}
use Rattle.pw_law_link_run.specs.Steps.{Setting}
use Rattle.pw_law_link_run.specs.Leveled.{Level}
use Rattle.pw_law_levels.specs.Bodies.{Raises, first_level, LeavesPointer, StartsLeave, Keeps, BlockFirst, IsPointed}
use Rattle.pw_law_levels.specs.Sparing.{SparesOp, IsSparing}
use Rattle.pw_law_levels.proofs.Pointer.{TargetsAre, word_leaves}
use Rattle.pw_law_levels.proofs.Rows.{AreSparing, joined, constant_in, load_in, operand_in, loaded_in, ops_in, webs_loaded_in, webs_stored_in, saved_stored_in, saved_loaded_in, parameters_are_in}
use Rattle.pw_law_levels.proofs.Words.{IsStill, AreWordLines}
use Rattle.pw_law_levels.proofs.Words as words
use Rattle.pw_law_levels.proofs.Entry.{entry_raises}

-- ---- lines as items

-- words alone are items of their own
word_item : (x : Inst) → IsStill x → plain_item x ≡ Plain (bare x)
word_item (i.Combf c r1 r2 disp) h = absurd h
word_item _ h = refl

slotted_joined : (xs ys : List Line) → AreWordLines xs → slotted (xs ++ ys) ≡ slotted xs ++ slotted ys
slotted_joined [] ys h = refl
slotted_joined (line.Plain x ∷ xs) ys h = ap (λ r. plain_item x ∷ r) (slotted_joined xs ys h.1)
slotted_joined (line.Fixed x k s n ∷ xs) ys h =
    ap (λ r. Plain (record { inst = x; relocation = Some (record { kind = k; symbol = s; addend = n }) }) ∷ r) (slotted_joined xs ys h.1)
slotted_joined (line.Jump b ∷ xs) ys h = absurd h.0
slotted_joined (line.BranchNonZero r b ∷ xs) ys h = absurd h.0
slotted_joined (line.Label b ∷ xs) ys h = absurd h.0
slotted_joined (line.CallTo s r ∷ xs) ys h = absurd h.0
slotted_joined (line.CallReg ∷ xs) ys h = absurd h.0
slotted_joined (line.Leave ∷ xs) ys h = absurd h.0

-- ---- a block begins first

block_behind : (xs rest : List Line) → AreWordLines xs → BlockFirst (slotted rest) → BlockFirst (slotted (xs ++ rest))
block_behind [] rest h first = first
block_behind (line.Plain x ∷ xs) rest h first =
    subst (λ item. BlockFirst (item ∷ slotted (xs ++ rest))) (sym (word_item x h.0)) (block_behind xs rest h.1 first)
block_behind (line.Fixed x k s n ∷ xs) rest h first = block_behind xs rest h.1 first
block_behind (line.Jump b ∷ xs) rest h first = absurd h.0
block_behind (line.BranchNonZero r b ∷ xs) rest h first = absurd h.0
block_behind (line.Label b ∷ xs) rest h first = absurd h.0
block_behind (line.CallTo s r ∷ xs) rest h first = absurd h.0
block_behind (line.CallReg ∷ xs) rest h first = absurd h.0
block_behind (line.Leave ∷ xs) rest h first = absurd h.0

blocks_first : (f : Located) (slots : List ℤ) (n : ℕ) (blocks : List WebBlock) → 1 ≤ length blocks → BlockFirst (slotted (blocks_lines f slots n blocks))
blocks_first f slots n [] some = absurd (omega (arith, some))
blocks_first f slots n (b ∷ rest) some = tt

-- ---- with words in slots

none_takes : (items : List Item) → BlockFirst items → takes_first items ≡ false
none_takes [] first = refl
none_takes (Plain w ∷ rest) first = refl
none_takes (Mark b ∷ rest) first = refl
none_takes (Turns turn slot ∷ rest) first = absurd first

first_alone : (behind : Bool) (item : Item) (rest : List Item) → BlockFirst rest → with_slot behind item rest ≡ item ∷ rest
first_alone behind (Plain w) (Turns turn None ∷ rest) first = absurd first
first_alone behind item rest first = refl

filled_first : (behind : Bool) (items : List Item) → BlockFirst items → BlockFirst (filled behind items)
filled_first behind [] first = absurd first
filled_first behind (Plain w ∷ rest) first =
    let later = filled_first (compares w.inst) rest first in
    subst (λ (l : List Item). BlockFirst l) (sym (first_alone behind (Plain w) (filled (compares w.inst) rest) later)) later
filled_first behind (Mark b ∷ rest) first = tt
filled_first behind (Turns turn slot ∷ rest) first = absurd first

-- words alone stay as they are
words_alone : (x : Setting) (f : LineFn) (l : Level) (behind : Bool) (w : Word) (rest : List Item) → Raises x f l rest → with_slot behind (Plain w) rest ≡ Plain w ∷ rest
words_alone x f l behind w [] raises = refl
words_alone x f l behind w (Plain v ∷ rest) raises = refl
words_alone x f l behind w (Mark b ∷ rest) raises = absurd raises
words_alone x f l behind w (Turns turn slot ∷ rest) raises = absurd raises

raises_alone : (x : Setting) (f : LineFn) (l : Level) (behind : Bool) (entry : List Item) → Raises x f l entry → filled behind entry ≡ entry
raises_alone x f l behind [] raises = refl
raises_alone x f l behind (Plain w ∷ rest) raises =
    ap (λ (r : List Item). with_slot behind (Plain w) r) (raises_alone x f raises.0 (compares w.inst) rest raises.2) ∙ words_alone x f raises.0 behind w rest raises.2
raises_alone x f l behind (Mark b ∷ rest) raises = absurd raises
raises_alone x f l behind (Turns turn slot ∷ rest) raises = absurd raises

-- ---- what keeps the pointer

module _ (targets : TargetsAre) (x : Setting) where
  -- whatever stands before
  abbrev KeepsOn : List Line → Type 0
  KeepsOn rest = (w : Bool) → Keeps x w (slotted rest)

  moved_leaves : LeavesPointer x link_moved
  moved_leaves = word_leaves targets x (i.Or 31 0 2) None (refl, tt)

  plain_keeps : (y : Inst) (r : List Item) → LeavesPointer x (bare y) → ((w : Bool) → Keeps x w r) → (w : Bool) → Keeps x w (plain_item y ∷ r)
  plain_keeps (i.Combf c r1 r2 disp) r h k w = k false
  plain_keeps _ r h k w = (inl h, k true)

  jump_keeps : (b : ℕ) (r : List Item) (n : Bool) → ((w : Bool) → Keeps x w r) → (w : Bool) → Keeps x w (before (if n then None else Some (Turns (Goto b) None)) r)
  jump_keeps b r true k w = k w
  jump_keeps b r false k w = k false

  rows_keep : (rows rest : List Line) → AreSparing rows → KeepsOn rest → KeepsOn (rows ++ rest)
  rows_keep [] rest h k w = k w
  rows_keep (line.Plain y ∷ rows) rest h k w = plain_keeps y (slotted (rows ++ rest)) (word_leaves targets x y None h.0) (rows_keep rows rest h.1 k) w
  rows_keep (line.Fixed y k' s n ∷ rows) rest h k w =
      (inl (word_leaves targets x y (Some (record { kind = k'; symbol = s; addend = n })) h.0), rows_keep rows rest h.1 k true)
  rows_keep (line.Jump b ∷ rows) rest h k w = jump_keeps b (slotted (rows ++ rest)) (begins_next b (rows ++ rest)) (rows_keep rows rest h.1 k) w
  rows_keep (line.BranchNonZero r b ∷ rows) rest h k w = rows_keep rows rest h.1 k false
  rows_keep (line.CallTo s r ∷ rows) rest h k w = rows_keep rows rest h.1 k false
  rows_keep (line.CallReg ∷ rows) rest h k w = (moved_leaves, rows_keep rows rest h.1 k false)
  rows_keep (line.Label b ∷ rows) rest h k w = absurd h.0
  rows_keep (line.Leave ∷ rows) rest h k w = absurd h.0

  -- the word before a return
  leave_keeps : (rest : List Line) (y : Inst) → IsStill y → KeepsOn rest → KeepsOn (line.Plain y ∷ line.Leave ∷ rest)
  leave_keeps rest y still k w =
      subst (λ item. Keeps x w (item ∷ Turns Leave None ∷ slotted rest)) (sym (word_item y still)) (inr tt, (refl, k false))

  left_by : (frame : ℕ) (t : Bool) (rest : List Line) → KeepsOn rest
      → KeepsOn ((if t then constant frame 1 ++ word (i.Sub 30 1 30) else word (i.Ldo (below frame) 30 30)) ++ line.Leave ∷ rest)
  left_by frame true rest k w =
      subst (λ lines. Keeps x w (slotted lines)) (sym (append_assoc (constant frame 1) (word (i.Sub 30 1 30)) (line.Leave ∷ rest)))
      (rows_keep (constant frame 1) (line.Plain (i.Sub 30 1 30) ∷ line.Leave ∷ rest) (constant_in frame 1 refl) (leave_keeps rest (i.Sub 30 1 30) tt k) w)
  left_by frame false rest k w = leave_keeps rest (i.Ldo (below frame) 30 30) tt k w

  -- ---- the ends of blocks

  epilogue_keeps : (f : Located) → IsSparing f → (rest : List Line) → KeepsOn rest → KeepsOn (epilogue f ++ rest)
  epilogue_keeps f h rest k w =
      let webs = webs_stored f.body.directives.webs in
      let restores = saved_lines load_from (head_size f.body) 0 f.saved in
      let back = load_from (below (f.frame + link_place)) 2 in
      let rows = webs ++ restores ++ back in
      let same : epilogue f ++ rest ≡ rows ++ (frame_left f.frame ++ line.Leave ∷ rest) =
      append_assoc (rows ++ frame_left f.frame) (line.Leave ∷ []) rest ∙ append_assoc rows (frame_left f.frame) (line.Leave ∷ rest) in
      subst (λ lines. Keeps x w (slotted lines)) (sym same)
      (rows_keep rows (frame_left f.frame ++ line.Leave ∷ rest)
      (joined (webs ++ restores) back (joined webs restores (webs_stored_in f.body.directives.webs h.webs) (saved_loaded_in (head_size f.body) 0 f.saved h.saved))
      (load_in (below (f.frame + link_place)) 2 refl))
      (left_by f.frame (nat_lt near_least f.frame) rest k) w)

  end_keeps : (f : Located) → IsSparing f → (e : End) (rest : List Line) → KeepsOn rest → KeepsOn (end_lines f e ++ rest)
  end_keeps f h (end.Jump b) rest k w = rows_keep (line.Jump b ∷ []) rest (tt, tt) k w
  end_keeps f h (end.Branch a b c) rest k w =
      let p = place_of f.places a in
      rows_keep (operand_lines p 22 ++ line.BranchNonZero (operand_register p 22) b ∷ line.Jump c ∷ []) rest
      (joined (operand_lines p 22) (line.BranchNonZero (operand_register p 22) b ∷ line.Jump c ∷ []) (operand_in p 22 refl) (tt, (tt, tt))) k w
  end_keeps f h (end.Return None) rest k w = epilogue_keeps f h rest k w
  end_keeps f h (end.Return (Some a)) rest k w =
      let p = place_of f.places a in
      subst (λ lines. Keeps x w (slotted lines)) (sym (append_assoc (loaded p 28) (epilogue f) rest))
      (rows_keep (loaded p 28) (epilogue f ++ rest) (loaded_in p 28 refl) (epilogue_keeps f h rest k) w)

  block_keeps : (f : Located) → IsSparing f → (slots : List ℤ) (b : WebBlock) → AllByRecursion SparesOp b.ops → (rest : List Line) → KeepsOn rest
      → KeepsOn ((flat_map (web_op_lines (layout f.places slots)) b.ops ++ end_lines f b.end) ++ rest)
  block_keeps f h slots b own rest k w =
      let ops = flat_map (web_op_lines (layout f.places slots)) b.ops in
      subst (λ lines. Keeps x w (slotted lines)) (sym (append_assoc ops (end_lines f b.end) rest))
      (rows_keep ops (end_lines f b.end ++ rest) (ops_in (layout f.places slots) h.places b.ops own) (end_keeps f h b.end rest k) w)

  blocks_keep : (f : Located) → IsSparing f → (slots : List ℤ) (n : ℕ) (blocks : List WebBlock) → AllByRecursion (λ (b : WebBlock). AllByRecursion SparesOp b.ops) blocks
      → KeepsOn (blocks_lines f slots n blocks)
  blocks_keep f h slots n [] own w = tt
  blocks_keep f h slots n (b ∷ rest) own w = block_keeps f h slots b own.0 (blocks_lines f slots (n + 1) rest) (blocks_keep f h slots (n + 1) rest own.1) false

  -- ---- with words in slots

  -- a word that stays before what is filled
  still_leaves : (w : Word) (behind : Bool) (rest : List Item) → LeavesPointer x w ⊎ StartsLeave rest → LeavesPointer x w ⊎ StartsLeave (filled behind rest)
  still_leaves w behind rest (inl h) = inl h
  still_leaves w behind (Turns Leave None ∷ rest) (inr h) = inr tt
  still_leaves w behind [] (inr h) = absurd h
  still_leaves w behind (Plain v ∷ rest) (inr h) = absurd h
  still_leaves w behind (Mark b ∷ rest) (inr h) = absurd h
  still_leaves w behind (Turns Leave (Some v) ∷ rest) (inr h) = absurd h
  still_leaves w behind (Turns (Back y) slot ∷ rest) (inr h) = absurd h
  still_leaves w behind (Turns (Goto b) slot ∷ rest) (inr h) = absurd h
  still_leaves w behind (Turns (If r b) slot ∷ rest) (inr h) = absurd h
  still_leaves w behind (Turns (CallTo s link) slot ∷ rest) (inr h) = absurd h
  still_leaves w behind (Turns CallReg slot ∷ rest) (inr h) = absurd h

  -- it may move as well
  moved_keeps : (word : Bool) (w : Word) (turn : Turn) (rest : List Item) → LeavesPointer x w ⊎ StartsLeave (Turns turn None ∷ rest) → Keeps x true (Turns turn None ∷ rest)
      → Keeps x word (Turns (drawn_near turn) (Some w) ∷ rest)
  moved_keeps word w Leave rest leaves k = k.1
  moved_keeps word w (Back (i.Combf c r1 r2 disp)) rest (inl leaves) k = (leaves, k)
  moved_keeps word w turn rest (inl leaves) k = (leaves, k)
  moved_keeps word w turn rest (inr starts) k = absurd starts

  word_keeps : (word behind : Bool) (w : Word) (rest : List Item) → LeavesPointer x w ⊎ StartsLeave rest → Keeps x true rest → Keeps x word (with_slot behind (Plain w) rest)
  word_keeps word behind w (Turns turn None ∷ rest) leaves k = by (not behind && moves w.inst turn)
    where
      by : (t : Bool) → Keeps x word (if t then Turns (drawn_near turn) (Some w) ∷ rest else Plain w ∷ Turns turn None ∷ rest)
      by true = moved_keeps word w turn rest leaves k
      by false = (leaves, k)
  word_keeps word behind w rest leaves k = (leaves, k)

  filled_keeps : (word behind : Bool) (items : List Item) → Keeps x word items → Keeps x word (filled behind items)
  filled_keeps word behind [] k = tt
  filled_keeps word behind (Plain w ∷ rest) k =
      word_keeps word behind w (filled (compares w.inst) rest) (still_leaves w (compares w.inst) rest k.0) (filled_keeps true (compares w.inst) rest k.1)
  filled_keeps word behind (Mark b ∷ rest) k = filled_keeps false behind rest k
  filled_keeps word behind (Turns Leave None ∷ rest) k = (k.0, filled_keeps false false rest k.1)
  filled_keeps word behind (Turns Leave (Some w) ∷ rest) k = filled_keeps false false rest k
  filled_keeps word behind (Turns (Back y) None ∷ rest) k = filled_keeps false false rest k
  filled_keeps word behind (Turns (Back y) (Some w) ∷ rest) k = (k.0, filled_keeps false false rest k.1)
  filled_keeps word behind (Turns (Goto b) None ∷ rest) k = filled_keeps false false rest k
  filled_keeps word behind (Turns (Goto b) (Some w) ∷ rest) k = (k.0, filled_keeps false false rest k.1)
  filled_keeps word behind (Turns (If r b) None ∷ rest) k = filled_keeps false false rest k
  filled_keeps word behind (Turns (If r b) (Some w) ∷ rest) k = (k.0, filled_keeps false false rest k.1)
  filled_keeps word behind (Turns (CallTo s link) None ∷ rest) k = filled_keeps false false rest k
  filled_keeps word behind (Turns (CallTo s link) (Some w) ∷ rest) k = (k.0, filled_keeps false false rest k.1)
  filled_keeps word behind (Turns CallReg None ∷ rest) k = filled_keeps false false rest k
  filled_keeps word behind (Turns CallReg (Some w) ∷ rest) k = (k.0, filled_keeps false false rest k.1)

  -- ---- the function

  pub pointed : PartsAlone → (g : LineFn) (f : Located) → g.located ≡ f → g.items ≡ arranged (selected f) → IsSparing f → IsPointed x g
  unfolding selected
  pointed alone g f is items h =
      let entry = entry_lines f.frame in
      let saves = saved_lines store_to (head_size f.body) 0 f.saved in
      let webs = webs_loaded f.body.directives.webs in
      let params = parameters_in f.frame f.places 0 f.body.params in
      let blocks = blocks_lines f (slot_offsets f) 0 f.body.blocks in
      let rows = saves ++ (webs ++ params) in
      let one : prologue f ≡ entry ++ rows =
      append_assoc (entry ++ saves) webs params ∙ append_assoc entry saves (webs ++ params) in
      let two : selected f ≡ entry ++ (rows ++ blocks) = ap (λ r. r ++ blocks) one ∙ append_assoc entry rows blocks in
      let body = slotted (rows ++ blocks) in
      let whole : slotted (selected f) ≡ slotted entry ++ body = ap slotted two ∙ slotted_joined entry (rows ++ blocks) (words.entry_in f.frame) in
      let first : BlockFirst body = block_behind rows blocks
      (words.joined saves (webs ++ params) (words.saved_stored_in (head_size f.body) 0 f.saved)
      (words.joined webs params (words.webs_loaded_in f.body.directives.webs) (words.parameters_are_in f.frame f.places 0 f.body.params)))
      (blocks_first f (slot_offsets f) 0 f.body.blocks h.start) in
      let raises = entry_raises x g f.frame (ap (λ (l : Located). l.frame) is) h.frame in
      let behind = compared_by false (slotted entry) in
      record {
        entry = slotted entry;
        body = filled behind body;
        items = items ∙ ap (filled false) whole ∙ alone false (slotted entry) body (none_takes body first)
            ∙ ap (λ l. l ++ filled behind body) (raises_alone x g first_level false (slotted entry) raises);
        raises = raises;
        keeps = filled_keeps false behind body (rows_keep rows blocks
            (joined saves (webs ++ params) (saved_stored_in (head_size f.body) 0 f.saved)
            (joined webs params (webs_loaded_in f.body.directives.webs h.webs) (parameters_are_in f.frame f.places 0 f.body.params h.places)))
            (blocks_keep f h (slot_offsets f) 0 f.body.blocks h.ops) false);
        first = filled_first behind body first;
        frame = let size = ap (λ (l : Located). l.frame) is in omega (arith, size, h.some);
      }
