-- Words in delay slots: which may stand there, and the state behind them.
use Rattle.std.specs.Prelude.{ℕ, ◌≡◌, ◌≢◌, false, Option, Some, None, List, [], ◌++◌}
use Rattle.pw_inst.specs.declared.Inst.{Inst}
use Rattle.pw_inst.specs.InstructionTable.{IsInRange}
use Rattle.pw_delay.specs.declared.items.Word.{Word}
use Rattle.pw_delay.specs.declared.items.Turn.{Turn}
use Rattle.pw_delay.specs.declared.items.Turn.TheVariants.{CallTo, CallReg}
use Rattle.pw_run_languages.specs.Traces.{Event}
use Rattle.pw_run_languages.specs.Acts as lines
use Rattle.pw_run_languages.specs.Acts.{Acts, Full, acts, settled}
use Rattle.pw_run_languages.specs.LineRun.{Machine, accesses}
use Rattle.pw_law_link_run.specs.Steps.{Setting}

-- ---- which may stand there

-- Its fields are in range with its address in it; it never stops for want of stack, nor passes over the word behind it.
pub record IsSlotWord (x : Setting) (word : Word) : Type 0 where
  pub range : (i : Inst) → settled x.addresses word ≡ Some i → IsInRange i
  pub stays : (c : lines.Core) → c.skip ≡ false → acts x.addresses (settled x.addresses word) c ≢ Full
  pub runs : (c d : lines.Core) → c.skip ≡ false → acts x.addresses (settled x.addresses word) c ≡ Acts d → d.skip ≡ false

abbrev pub IsSlotFit : Setting → Option Word → Type 0
IsSlotFit x None = Unit {0}
IsSlotFit x (Some word) = IsSlotWord x word

-- it leaves a register as it is
abbrev pub LeavesRegister : Setting → ℕ → Option Word → Type 0
LeavesRegister x r None = Unit {0}
LeavesRegister x r (Some word) =
    (c d : lines.Core) → c.skip ≡ false → acts x.addresses (settled x.addresses word) c ≡ Acts d → lines.register d r ≡ lines.register c r

-- ---- what it does

-- behind a slot stands another core, and these loads and stores are noted
abbrev pub SlotDoes : Setting → Option Word → lines.Core → lines.Core → List (Event ℕ ℕ) → Type 0
SlotDoes x None c d es = (d ≡ c) × (es ≡ [])
SlotDoes x (Some word) c d es =
    (acts x.addresses (settled x.addresses word) c ≡ Acts d) × (es ≡ accesses x.program x.addresses (settled x.addresses word) c)

abbrev pub behind_slot : lines.Core → List (Event ℕ ℕ) → Machine → Machine
behind_slot d es m = record m { core = d; trace = es ++ m.trace }

-- behind the branch of a turn, whose call returns to an address, before its slot
abbrev pub behind_branch : Turn → ℕ → lines.Core → lines.Core
behind_branch (CallTo s link) to c = lines.with_register link to c
behind_branch CallReg to c = lines.with_register 31 to c
behind_branch turn to c = c
