-- How many words items have.
use Rattle.std.proofs.Common.{◌≡◌, ℕ, Bool, true, false, if◌then◌else◌, Option, None, Some, List, [], ◌∷◌, length, refl, arith}
use Rattle.pw_inst.specs.declared.Inst.{Inst}
use Rattle.pw_inst.specs.declared.Inst.TheVariants as i
use Rattle.pw_inst.specs.InstructionTable.{IsInRange}
use Rattle.pw_inst.specs.declared.line.Line.{Line}
use Rattle.pw_inst.specs.declared.line.Line.TheVariants as line
use Rattle.pw_delay.specs.declared.items.Word.{Word}
use Rattle.pw_delay.specs.declared.items.Turn.{Turn}
use Rattle.pw_delay.specs.declared.items.Turn.TheVariants.{Back, Goto, If, CallTo, CallReg, Leave}
use Rattle.pw_delay.specs.declared.items.Item.{Item}
use Rattle.pw_delay.specs.declared.items.Item.TheVariants.{Plain, Turns, Mark}
use Rattle.pw_delay.specs.Items.{begins_next, plain_item, item_of, before, slotted}
use Rattle.pw_delay.specs.Lawful.{IsItem, AreItems}
use Rattle.pw_delay.specs.Lines.{AreLines}
use Rattle.pw_delay.specs.Placement.{turn_size, size, turn_words, item_words}

-- an item has as many words as its size says
turn_length : (long : Bool) (begins : ℕ → ℕ) (at : ℕ) (turn : Turn) (slot : Option Word) → length (turn_words long begins at turn slot) ≡ turn_size long turn slot
turn_length long begins at (Back branch) slot = refl
turn_length long begins at (Goto b) slot = refl
turn_length true begins at (If r b) slot = refl
turn_length false begins at (If r b) slot = refl
turn_length long begins at (CallTo s link) slot = refl
turn_length long begins at CallReg slot = refl
turn_length long begins at Leave None = refl
turn_length long begins at Leave (Some w) = refl

pub item_length : (long : Bool) (begins : ℕ → ℕ) (at : ℕ) (item : Item) → length (item_words long begins at item) ≡ size long item
item_length long begins at (Plain w) = refl
item_length long begins at (Turns turn slot) = turn_length long begins at turn slot
item_length long begins at (Mark b) = refl

-- the items of lines that can be placed can be laid
plain_lawful : (x : Inst) → IsInRange x → IsItem (plain_item x)
plain_lawful (i.Combf c r1 r2 disp) h = (h, tt)
plain_lawful x h = h

jump_lawful : (b : ℕ) (rest : List Line) (items : List Item) → AreItems items → AreItems (before (item_of (line.Jump b) rest) items)
jump_lawful b rest items h = by (begins_next b rest)
  where
    by : (t : Bool) → AreItems (before (if t then None else Some (Turns (Goto b) None)) items)
    by true = h
    by false = ((tt, tt), h)

moved_lawful : IsInRange (i.Or 31 0 2)
unfolding IsInRange
moved_lawful = (omega arith, omega arith, omega arith)

pub slotted_lawful : (lines : List Line) → AreLines lines → AreItems (slotted lines)
slotted_lawful [] h = tt
slotted_lawful (line.Plain x ∷ rest) h = (plain_lawful x h.0, slotted_lawful rest h.1)
slotted_lawful (line.Fixed x k s n ∷ rest) h = (h.0, slotted_lawful rest h.1)
slotted_lawful (line.Jump b ∷ rest) h = jump_lawful b rest (slotted rest) (slotted_lawful rest h.1)
slotted_lawful (line.BranchNonZero r b ∷ rest) h = ((h.0, tt), slotted_lawful rest h.1)
slotted_lawful (line.Label b ∷ rest) h = (tt, slotted_lawful rest h.1)
slotted_lawful (line.CallTo s r ∷ rest) h = ((h.0, tt), slotted_lawful rest h.1)
slotted_lawful (line.CallReg ∷ rest) h = ((tt, moved_lawful), slotted_lawful rest h.1)
slotted_lawful (line.Leave ∷ rest) h = ((tt, tt), slotted_lawful rest h.1)
