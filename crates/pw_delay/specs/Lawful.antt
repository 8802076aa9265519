-- Which items can be laid: those of lines that can be placed.
use Rattle.std.specs.Prelude.{Option, Some, None, List}
use Rattle.std.specs.List.{AllByRecursion}
use Rattle.pw_inst.specs.InstructionTable.{IsInRange, IsRegister}
use Rattle.pw_delay.specs.declared.items.Word.{Word}
use Rattle.pw_delay.specs.declared.items.Turn.{Turn}
use Rattle.pw_delay.specs.declared.items.Turn.TheVariants.{Back, If, CallTo}
use Rattle.pw_delay.specs.declared.items.Item.{Item}
use Rattle.pw_delay.specs.declared.items.Item.TheVariants.{Plain, Turns, Mark}

abbrev pub IsSlot : Option Word → Type 0
IsSlot None = Unit {0}
IsSlot (Some w) = IsInRange w.inst

abbrev pub IsTurn : Turn → Type 0
IsTurn (Back i) = IsInRange i
IsTurn (If r b) = IsRegister r
IsTurn (CallTo s r) = IsRegister r
IsTurn _ = Unit {0}

abbrev pub IsItem : Item → Type 0
IsItem (Plain w) = IsInRange w.inst
IsItem (Turns turn slot) = IsTurn turn × IsSlot slot
IsItem (Mark b) = Unit {0}

abbrev pub AreItems : List Item → Type 0
AreItems items = AllByRecursion IsItem items
