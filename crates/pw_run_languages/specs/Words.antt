-- How items stand as words: each word with its address in it, each turn as a branch that leads to its target with its
-- slot behind it, each block at the address of its mark.
use Rattle.std.specs.Prelude.{ℕ, ℤ, pos, ◌≡◌, ◌+◌, ◌*◌, ◌%◌, ◌^◌, Bool, true, false, Option, Some, None, List, [], ◌∷◌}
use Rattle.std.specs.Int.{cast_unsigned, w32}
use Rattle.pw_inst.specs.declared.Inst.{Inst}
use Rattle.pw_inst.specs.declared.Inst.TheVariants.{Combt, Combf, Bl, Bv, Ble}
use Rattle.pw_inst.specs.declared.relocation.Symbol.{Symbol}
use Rattle.pw_delay.specs.declared.items.Word.{Word}
use Rattle.pw_delay.specs.declared.items.Turn.{Turn}
use Rattle.pw_delay.specs.declared.items.Item.{Item}
use Rattle.pw_delay.specs.declared.items.Turn.TheVariants.{Back, Goto, If, CallTo, CallReg, Leave}
use Rattle.pw_delay.specs.declared.items.Item.TheVariants.{Plain, Turns, Mark}
use Rattle.pw_delay.specs.Placement.{in_slot, turn_size}
use Rattle.pw_run_languages.specs.Addresses.{Addresses}
use Rattle.pw_run_languages.specs.Acts.{settled, symbol_address}
use Rattle.pw_run_languages.specs.LineRun.{turns}

-- where words stand: by an address the instruction there, the addresses of names, those of the blocks of a function
-- of a name, and whether its conditional branches are long
pub record Text : Type 0 where
  pub fetch : ℕ → Option Inst
  pub addresses : Addresses
  pub name : List ℕ
  pub mark : ℕ → ℕ
  pub long : Bool

-- a branch at an address, with this displacement, leads to another
abbrev pub Leads : ℕ → ℤ → ℕ → Type 0
Leads a disp target = (a + 8 + 4 * cast_unsigned w32 disp) % 2 ^ 32 ≡ target

pub record JumpsTo (t : Text) (a link target : ℕ) : Type 0 where
  pub displacement : ℤ
  pub is : t.fetch a ≡ Some (Bl displacement link false)
  pub leads : Leads a displacement target

-- a branch where the register does not hold 0
pub record TestsShort (t : Text) (a r target : ℕ) : Type 0 where
  pub displacement : ℤ
  pub is : t.fetch a ≡ Some (Combf 1 r 0 displacement)
  pub leads : Leads a displacement target

-- the same as a branch over a jump
pub record TestsLong (t : Text) (a r target : ℕ) : Type 0 where
  pub is : t.fetch a ≡ Some (Combt 1 r 0 (pos 2))
  pub jump : JumpsTo t (a + 8) 0 target
  pub slot : t.fetch (a + 12) ≡ settled t.addresses (in_slot None)

abbrev pub Tests : Text → Bool → ℕ → ℕ → ℕ → Type 0
Tests t false a r target = TestsShort t a r target
Tests t true a r target = TestsLong t a r target

pub record CallsSymbol (t : Text) (a link : ℕ) (s : Symbol) : Type 0 where
  pub target : ℕ
  pub is : symbol_address t.addresses s ≡ Some target
  pub jumps : JumpsTo t a link target

-- a slot's word stands behind its branch
abbrev pub SlotStands : Text → ℕ → Option Word → Type 0
SlotStands t a slot = t.fetch (a + 4) ≡ settled t.addresses (in_slot slot)

-- the return address of a call
abbrev pub ReturnsBehind : Text → ℕ → List Item → Type 0
ReturnsBehind t a rest = t.addresses.behind t.name (turns rest) ≡ a + 8

-- a turn at an address, behind which these items are left
abbrev pub TurnStands : Text → ℕ → Turn → Option Word → List Item → Type 0
TurnStands t a (Back branch) slot rest = (t.fetch a ≡ Some branch) × SlotStands t a slot
TurnStands t a (Goto b) slot rest = JumpsTo t a 0 (t.mark b) × SlotStands t a slot
TurnStands t a (If r b) slot rest = Tests t t.long a r (t.mark b) × SlotStands t a slot
TurnStands t a (CallTo s link) slot rest = CallsSymbol t a link s × SlotStands t a slot × ReturnsBehind t a rest
TurnStands t a CallReg slot rest = (t.fetch a ≡ Some (Ble 22 false)) × SlotStands t a slot × ReturnsBehind t a rest
TurnStands t a Leave None rest = t.fetch a ≡ Some (Bv 2 true)
TurnStands t a Leave (Some word) rest = (t.fetch a ≡ Some (Bv 2 false)) × SlotStands t a (Some word)

-- items from an address on
abbrev pub StandsAt : Text → ℕ → List Item → Type 0
StandsAt t a [] = Unit {0}
StandsAt t a (Plain word ∷ rest) = (t.fetch a ≡ settled t.addresses word) × StandsAt t (a + 4) rest
StandsAt t a (Turns turn slot ∷ rest) =
    TurnStands t a turn slot rest × StandsAt t (a + 4 * turn_size t.long turn slot) rest
StandsAt t a (Mark b ∷ rest) = (t.mark b ≡ a) × StandsAt t a rest
