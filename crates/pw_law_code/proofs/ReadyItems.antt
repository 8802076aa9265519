-- The items of lines that words can be made of.
use Rattle.std.proofs.Common.{◌≡◌, ◌≢◌, ℕ, Bool, true, false, if◌then◌else◌, Option, None, Some, List, [], ◌∷◌, refl, ap, sym, ◌∙◌, arith}
use Rattle.std.specs.List.{flat_map, AllByRecursion}
use Rattle.pw_inst.specs.declared.Inst.{Inst}
use Rattle.pw_inst.specs.declared.Inst.TheVariants as i
use Rattle.pw_inst.specs.InstructionTable.{IsInRange, IsRegister}
use Rattle.pw_inst.specs.declared.line.Line.{Line}
use Rattle.pw_inst.specs.declared.line.Line.TheVariants as line
use Rattle.pw_delay.specs.declared.items.Word.{Word}
use Rattle.pw_delay.specs.declared.items.Relocation.{Relocation}
use Rattle.pw_delay.specs.declared.items.Turn.{Turn}
use Rattle.pw_delay.specs.declared.items.Turn.TheVariants.{Back, Goto, If, CallTo}
use Rattle.pw_delay.specs.declared.items.Item.{Item}
use Rattle.pw_delay.specs.declared.items.Item.TheVariants.{Plain, Turns, Mark}
use Rattle.pw_delay.specs.Items.{begins_next, plain_item, item_of, before, slotted}
use Rattle.pw_delay.specs.Filling.{drawn_near}
use Rattle.pw_delay.specs.Parts.{blocks_of}
use Rattle.pw_delay.proofs.Keeping.{PropertiesMove, properties_stay, blocks_stay, turn_lawful}
use Rattle.pw_run_languages.specs.Acts.{with_address}
use Rattle.pw_run_languages.specs.CodeStands.{IsOfProgram, IsReady, labels}
use Rattle.pw_run_languages.specs.SelectionLaws.{arranged}

-- a word takes the address that is to go into it
abbrev pub IsReadyBy : Inst → Option Relocation → Type 0
IsReadyBy x None = Unit {0}
IsReadyBy x (Some r) = (with_address r.kind 0 x ≢ None) × IsOfProgram r.symbol

pub record IsReadyWord (w : Word) : Type 0 where
  pub range : IsInRange w.inst
  pub takes : IsReadyBy w.inst w.relocation

abbrev pub IsReadySlot : Option Word → Type 0
IsReadySlot None = Unit {0}
IsReadySlot (Some w) = IsReadyWord w

abbrev pub IsReadyTurn : Turn → Type 0
IsReadyTurn (Back x) = IsInRange x
IsReadyTurn (If r b) = IsRegister r
IsReadyTurn (CallTo s link) = IsRegister link × IsOfProgram s
IsReadyTurn _ = Unit {0}

abbrev pub IsReadyItem : Item → Type 0
IsReadyItem (Plain w) = IsReadyWord w
IsReadyItem (Turns turn slot) = IsReadyTurn turn × IsReadySlot slot
IsReadyItem (Mark b) = Unit {0}

plain_ready : (x : Inst) → IsInRange x → IsReadyItem (plain_item x)
plain_ready (i.Combf c r1 r2 disp) h = (h, tt)
plain_ready x h = record { range = h; takes = tt }

moved_ready : IsReadySlot (Some (record { inst = i.Or 31 0 2; relocation = None }))
unfolding IsInRange
moved_ready = record { range = (omega arith, omega arith, omega arith); takes = tt }

jump_ready : (b : ℕ) (rest : List Line) (items : List Item) → AllByRecursion IsReadyItem items → AllByRecursion IsReadyItem (before (item_of (line.Jump b) rest) items)
jump_ready b rest items h = by (begins_next b rest)
  where
    by : (t : Bool) → AllByRecursion IsReadyItem (before (if t then None else Some (Turns (Goto b) None)) items)
    by true = h
    by false = ((tt, tt), h)

slotted_ready : (lines : List Line) → AllByRecursion IsReady lines → AllByRecursion IsReadyItem (slotted lines)
slotted_ready [] h = tt
slotted_ready (line.Plain x ∷ rest) h = (plain_ready x h.0, slotted_ready rest h.1)
slotted_ready (line.Fixed x k s n ∷ rest) h = (record { range = h.0.0; takes = (h.0.1, h.0.2) }, slotted_ready rest h.1)
slotted_ready (line.Jump b ∷ rest) h = jump_ready b rest (slotted rest) (slotted_ready rest h.1)
slotted_ready (line.BranchNonZero r b ∷ rest) h = ((h.0, tt), slotted_ready rest h.1)
slotted_ready (line.Label b ∷ rest) h = (tt, slotted_ready rest h.1)
slotted_ready (line.CallTo s r ∷ rest) h = ((h.0, tt), slotted_ready rest h.1)
slotted_ready (line.CallReg ∷ rest) h = ((tt, moved_ready), slotted_ready rest h.1)
slotted_ready (line.Leave ∷ rest) h = ((tt, tt), slotted_ready rest h.1)

-- ---- with words in slots

near_ready : (turn : Turn) → IsReadyTurn turn → IsReadyTurn (drawn_near turn)
near_ready (Back (i.Combf c r1 r2 disp)) h = turn_lawful (Back (i.Combf c r1 r2 disp)) h
near_ready turn h = h

ready_moves : PropertiesMove IsReadyItem
ready_moves w turn plain turns free = (near_ready turn turns.0, plain)

pub arranged_ready : (lines : List Line) → AllByRecursion IsReady lines → AllByRecursion IsReadyItem (arranged lines)
arranged_ready lines h = properties_stay IsReadyItem false (slotted lines) ready_moves (slotted_ready lines h)

-- ---- where blocks begin

abbrev pub marks_of : List Item → List ℕ
marks_of [] = []
marks_of (Plain w ∷ rest) = marks_of rest
marks_of (Turns turn slot ∷ rest) = marks_of rest
marks_of (Mark b ∷ rest) = b ∷ marks_of rest

plain_marks : (x : Inst) (items : List Item) → marks_of (plain_item x ∷ items) ≡ marks_of items
plain_marks (i.Combf c r1 r2 disp) items = refl
plain_marks x items = refl

jump_marks : (b : ℕ) (rest : List Line) (items : List Item) → marks_of (before (item_of (line.Jump b) rest) items) ≡ marks_of items
jump_marks b rest items = by (begins_next b rest)
  where
    by : (t : Bool) → marks_of (before (if t then None else Some (Turns (Goto b) None)) items) ≡ marks_of items
    by true = refl
    by false = refl

marks_are_labels : (lines : List Line) → marks_of (slotted lines) ≡ labels lines
marks_are_labels [] = refl
marks_are_labels (line.Plain x ∷ rest) = plain_marks x (slotted rest) ∙ marks_are_labels rest
marks_are_labels (line.Fixed x k s n ∷ rest) = marks_are_labels rest
marks_are_labels (line.Jump b ∷ rest) = jump_marks b rest (slotted rest) ∙ marks_are_labels rest
marks_are_labels (line.BranchNonZero r b ∷ rest) = marks_are_labels rest
marks_are_labels (line.Label b ∷ rest) = ap (λ (bs : List ℕ). b ∷ bs) (marks_are_labels rest)
marks_are_labels (line.CallTo s r ∷ rest) = marks_are_labels rest
marks_are_labels (line.CallReg ∷ rest) = marks_are_labels rest
marks_are_labels (line.Leave ∷ rest) = marks_are_labels rest

marks_are_blocks : (items : List Item) → marks_of items ≡ flat_map blocks_of items
marks_are_blocks [] = refl
marks_are_blocks (Plain w ∷ rest) = marks_are_blocks rest
marks_are_blocks (Turns turn slot ∷ rest) = marks_are_blocks rest
marks_are_blocks (Mark b ∷ rest) = ap (λ (bs : List ℕ). b ∷ bs) (marks_are_blocks rest)

pub arranged_marks : (lines : List Line) → marks_of (arranged lines) ≡ labels lines
arranged_marks lines =
    marks_are_blocks (arranged lines) ∙ blocks_stay false (slotted lines) ∙ sym (marks_are_blocks (slotted lines)) ∙ marks_are_labels lines
