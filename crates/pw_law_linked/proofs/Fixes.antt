-- The relocations of placed code are those of its lines, and of the branches to its own words.
use Rattle.std.specs.Prelude.{ℕ, ◌+◌, nat_lt, Bool, true, false, if◌then◌else◌, Option, Some, None, List, [], ◌∷◌, ◌++◌}
use Rattle.std.specs.List.{AllByRecursion}
use Rattle.pw_inst.specs.declared.Inst.{Inst}
use Rattle.pw_inst.specs.declared.Inst.TheVariants as i
use Rattle.pw_inst.specs.declared.line.Line.{Line}
use Rattle.pw_inst.specs.declared.line.Line.TheVariants as line
use Rattle.pw_inst.specs.declared.relocation.Fix.{Fix}
use Rattle.pw_inst.specs.declared.relocation.FixKind.{FixKind}
use Rattle.pw_inst.specs.declared.relocation.FixKind.TheVariants as kind
use Rattle.pw_inst.specs.declared.relocation.Symbol.{Symbol}
use Rattle.pw_inst.specs.declared.relocation.Symbol.TheVariants as symbol
use Rattle.pw_delay.specs.declared.items.Relocation.{Relocation}
use Rattle.pw_delay.specs.declared.items.Word.{Word}
use Rattle.pw_delay.specs.declared.items.Turn.{Turn}
use Rattle.pw_delay.specs.declared.items.Turn.TheVariants.{Back, Goto, If, CallTo, CallReg, Leave}
use Rattle.pw_delay.specs.declared.items.Item.{Item}
use Rattle.pw_delay.specs.declared.items.Item.TheVariants.{Plain, Turns, Mark}
use Rattle.pw_delay.specs.Items.{begins_next, plain_item, item_of, before, slotted}
use Rattle.pw_delay.specs.Filling.{drawn_near, filled}
use Rattle.pw_delay.specs.Placement.{size, sizes, in_slot, turn_words, item_words, words_from, mark_at, fix_at, fixes_from, laid, short_limit, placed}
use Rattle.pw_delay.proofs.Keeping.{PropertiesMove, properties_stay}
use Rattle.pw_law_select_walk.specs.Rows.{TakesAddress, IsSelected}
use Rattle.pw_law_linked.specs.Relocations.{IsRelocation}

module _ (Known Called : List ℕ → Type 0) where
  abbrev OfRelocation : Option Relocation → Type 0
  OfRelocation None = Unit {0}
  OfRelocation (Some r) = IsRelocation Called r.kind r.symbol

  abbrev OfWord : Word → Type 0
  OfWord w = OfRelocation w.relocation

  abbrev OfSlot : Option Word → Type 0
  OfSlot None = Unit {0}
  OfSlot (Some w) = OfWord w

  abbrev OfTurn : Turn → Type 0
  OfTurn (CallTo s link) = IsRelocation Called kind.Bl s
  OfTurn turn = Unit {0}

  abbrev OfItem : Item → Type 0
  OfItem (Plain w) = OfWord w
  OfItem (Turns turn slot) = OfTurn turn × OfSlot slot
  OfItem (Mark b) = Unit {0}

  abbrev pub OfFix : Fix → Type 0
  OfFix f = IsRelocation Called f.kind f.symbol

  -- ---- words

  both : (xs ys : List Word) → AllByRecursion OfWord xs → AllByRecursion OfWord ys → AllByRecursion OfWord (xs ++ ys)
  both [] ys h k = k
  both (x ∷ xs) ys h k = (h.0, both xs ys h.1 k)

  slot_word : (slot : Option Word) → OfSlot slot → OfWord (in_slot slot)
  slot_word None h = tt
  slot_word (Some w) h = h

  of_turn : (long : Bool) (begins : ℕ → ℕ) (at : ℕ) (turn : Turn) (slot : Option Word) → OfTurn turn → OfSlot slot → AllByRecursion OfWord (turn_words long begins at turn slot)
  of_turn long begins at (Back branch) slot h k = (tt, (slot_word slot k, tt))
  of_turn long begins at (Goto b) slot h k = (tt, (slot_word slot k, tt))
  of_turn false begins at (If r b) slot h k = (tt, (slot_word slot k, tt))
  of_turn true begins at (If r b) slot h k = (tt, (slot_word slot k, (tt, (tt, tt))))
  of_turn long begins at (CallTo s link) slot h k = (h, (slot_word slot k, tt))
  of_turn long begins at CallReg slot h k = (tt, (slot_word slot k, tt))
  of_turn long begins at Leave None h k = (tt, tt)
  of_turn long begins at Leave (Some w) h k = (tt, (k, tt))

  of_item : (long : Bool) (begins : ℕ → ℕ) (at : ℕ) (item : Item) → OfItem item → AllByRecursion OfWord (item_words long begins at item)
  of_item long begins at (Plain w) h = (h, tt)
  of_item long begins at (Turns turn slot) h = of_turn long begins at turn slot h.0 h.1
  of_item long begins at (Mark b) h = tt

  of_items : (long : Bool) (begins : ℕ → ℕ) (at : ℕ) (items : List Item) → AllByRecursion OfItem items → AllByRecursion OfWord (words_from long begins at items)
  of_items long begins at [] h = tt
  of_items long begins at (item ∷ rest) h =
      both (item_words long begins at item) (words_from long begins (at + size long item) rest) (of_item long begins at item h.0) (of_items long begins (at + size long item) rest h.1)

  -- ---- relocations

  with_fix : (at : ℕ) (r : Option Relocation) (rest : List Fix) → OfRelocation r → AllByRecursion OfFix rest → AllByRecursion OfFix (fix_at at r ++ rest)
  with_fix at None rest h k = k
  with_fix at (Some r) rest h k = (h, k)

  of_words : (at : ℕ) (words : List Word) → AllByRecursion OfWord words → AllByRecursion OfFix (fixes_from at words)
  of_words at [] h = tt
  of_words at (w ∷ rest) h = with_fix at w.relocation (fixes_from (at + 1) rest) h.0 (of_words (at + 1) rest h.1)

  -- ---- lines

  plain_in : (x : Inst) → OfItem (plain_item x)
  plain_in (i.Combf c r1 r2 disp) = (tt, tt)
  plain_in x = tt

  fixed_in : (k : FixKind) (x : Inst) (s : Symbol) → TakesAddress k x → IsRelocation Called k s
  fixed_in kind.Ldil x s h = tt
  fixed_in kind.Im14 x s h = tt
  fixed_in kind.Bl x s h = absurd h

  call_in : (s : Symbol) (r : ℕ) → IsSelected Known Called (line.CallTo s r) → IsRelocation Called kind.Bl s
  call_in (symbol.Named f) r h = h.1
  call_in (symbol.Routine k) r h = h.1
  call_in symbol.StackLimit r h = absurd h
  call_in (symbol.Word k) r h = tt

  jump_in : (b : ℕ) (rest : List Line) (items : List Item) → AllByRecursion OfItem items → AllByRecursion OfItem (before (item_of (line.Jump b) rest) items)
  jump_in b rest items h = by (begins_next b rest)
    where
      by : (t : Bool) → AllByRecursion OfItem (before (if t then None else Some (Turns (Goto b) None)) items)
      by true = h
      by false = ((tt, tt), h)

  of_lines : (lines : List Line) → AllByRecursion (IsSelected Known Called) lines → AllByRecursion OfItem (slotted lines)
  of_lines [] h = tt
  of_lines (line.Plain x ∷ rest) h = (plain_in x, of_lines rest h.1)
  of_lines (line.Fixed x k s n ∷ rest) h = (fixed_in k x s h.0.0, of_lines rest h.1)
  of_lines (line.Jump b ∷ rest) h = jump_in b rest (slotted rest) (of_lines rest h.1)
  of_lines (line.BranchNonZero r b ∷ rest) h = ((tt, tt), of_lines rest h.1)
  of_lines (line.Label b ∷ rest) h = (tt, of_lines rest h.1)
  of_lines (line.CallTo s r ∷ rest) h = ((call_in s r h.0, tt), of_lines rest h.1)
  of_lines (line.CallReg ∷ rest) h = ((tt, tt), of_lines rest h.1)
  of_lines (line.Leave ∷ rest) h = ((tt, tt), of_lines rest h.1)

  near_in : (turn : Turn) → OfTurn turn → OfTurn (drawn_near turn)
  near_in (Back (i.Combf c r1 r2 disp)) h = tt
  near_in turn h = h

  moves_in : PropertiesMove OfItem
  moves_in w turn plain turns free = (near_in turn turns.0, plain)

  pub placed_fixes : (lines : List Line) → AllByRecursion (IsSelected Known Called) lines → AllByRecursion OfFix (placed lines).fixes
  unfolding placed laid
  placed_fixes lines h =
      let items = filled false (slotted lines) in
      let long = nat_lt short_limit (sizes false (slotted lines)) in
      of_words 0 (words_from long (mark_at long 0 items) 0 items)
      (of_items long (mark_at long 0 items) 0 items (properties_stay OfItem false (slotted lines) moves_in (of_lines lines h)))
