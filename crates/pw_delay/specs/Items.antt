-- Lines as items: words, turns of control with what stands in their delay slots, and the places where blocks begin.
-- Short and long branches, and slots that are filled or not, are one list of items.
use Rattle.std.specs.Prelude.{ℕ, ◌==◌, Bool, false, if◌then◌else◌, Option, Some, None, List, [], ◌∷◌}
use Rattle.pw_inst.specs.Registers.{return_address, routine_link}
use Rattle.pw_inst.specs.declared.Inst.{Inst}
use Rattle.pw_inst.specs.declared.Inst.TheVariants.{Or, Combf}
use Rattle.pw_inst.specs.declared.line.Line.{Line}
use Rattle.pw_inst.specs.declared.line.Line.TheVariants as line
use Rattle.pw_inst.specs.declared.relocation.FixKind.{FixKind}
use Rattle.pw_inst.specs.declared.relocation.Symbol.{Symbol}
use Rattle.pw_delay.specs.declared.items.Word.{Word}
use Rattle.pw_delay.specs.declared.items.Turn.TheVariants.{Back, Goto, If, CallTo, CallReg, Leave}
use Rattle.pw_delay.specs.declared.items.Item.{Item}
use Rattle.pw_delay.specs.declared.items.Item.TheVariants.{Plain, Turns, Mark}

abbrev pub bare : Inst → Word
bare i = record { inst = i; relocation = None }

-- a call through a register takes its return address from the register of a routine's link in its slot
abbrev pub link_moved : Word
link_moved = bare (Or routine_link 0 return_address)

-- whether a block begins at the next line
abbrev pub begins_next : ℕ → List Line → Bool
begins_next b (line.Label n ∷ rest) = n == b
begins_next b _ = false

-- A branch among the plain lines is one that goes back inside its block.
abbrev pub plain_item : Inst → Item
plain_item (Combf c r1 r2 disp) = Turns (Back (Combf c r1 r2 disp)) None
plain_item i = Plain (bare i)

abbrev pub fixed_item : Inst → FixKind → Symbol → ℕ → Item
fixed_item i k s n = Plain (record { inst = i; relocation = Some (record { kind = k; symbol = s; addend = n }) })

-- a jump to the block that begins at the next line is no item
abbrev pub jump_item : ℕ → List Line → Option Item
jump_item b rest = if begins_next b rest then None else Some (Turns (Goto b) None)

-- the item of a line, where it has one, by the lines behind it
abbrev pub item_of : Line → List Line → Option Item
item_of (line.Plain i) rest = Some (plain_item i)
item_of (line.Fixed i k s n) rest = Some (fixed_item i k s n)
item_of (line.Jump b) rest = jump_item b rest
item_of (line.BranchNonZero r b) rest = Some (Turns (If r b) None)
item_of (line.Label b) rest = Some (Mark b)
item_of (line.CallTo s r) rest = Some (Turns (CallTo s r) None)
item_of line.CallReg rest = Some (Turns CallReg (Some link_moved))
item_of line.Leave rest = Some (Turns Leave None)

abbrev pub before : Option Item → List Item → List Item
before None rest = rest
before (Some item) rest = item ∷ rest

abbrev pub slotted : List Line → List Item
slotted [] = []
slotted (l ∷ rest) = before (item_of l rest) (slotted rest)
