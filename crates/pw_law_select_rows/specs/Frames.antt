-- Words of the frame, by their offsets from the stack pointer: near ones by a displacement, far ones over the register of
-- addresses.
use Rattle.std.specs.Prelude.{ℕ, ℤ, true, false, ◌≡◌, ◌≢◌, ◌+◌, ◌≤◌, List, Contains}
use Rattle.pw_flow.specs.declared.flow.FlowGlobal.{FlowGlobal}
use Rattle.pw_inst.specs.Registers.{help, stack_pointer}
use Rattle.pw_inst.specs.Computing.{offset_by}
use Rattle.pw_delay.specs.declared.items.Word.{Word}
use Rattle.pw_law_select_memory.specs.FromRunLanguages.Traces.{Event}
use Rattle.pw_law_select_memory.specs.FromRunLanguages.Programs.{globals_of}
use Rattle.pw_law_select_memory.specs.FromRunLanguages.Addresses.{Addresses}
use Rattle.pw_law_select_memory.specs.FromRunLanguages.Acts.{Core, Acts, register, number_at, with_number, is_open}
use Rattle.pw_law_select_memory.specs.FromRunLanguages.LineRun.{LineProgram}
use Rattle.pw_select_lines.specs.Registers.{load_from, store_to}
use Rattle.pw_law_select_rows.specs.Straight.{ran, words_of, noted}

-- where a word of the frame stands
abbrev pub frame_word : Core → ℤ → ℕ
frame_word c offset = offset_by (register c stack_pointer) offset

-- a word that is above all globals, where it may be loaded and stored
pub record IsFrameWord (p : LineProgram) (w : Addresses) (a : ℕ) : Type 0 where
  pub opens : is_open w a 4 ≡ true
  pub above : (g : FlowGlobal) → Contains (globals_of p.flow) g → w.named g.name + g.size ≤ a

-- words load a word into a register, over no other register but that of addresses, and note nothing
pub record LoadsWord (p : LineProgram) (w : Addresses) (words : List Word) (d n : ℕ) (c : Core) : Type 0 where
  pub core : Core
  pub acts : ran w words c ≡ Acts core
  pub value : register core d ≡ n
  pub others : (r : ℕ) → r ≢ d → r ≢ help → register core r ≡ register c r
  pub memory : core.memory ≡ c.memory
  pub skip : core.skip ≡ false
  pub quiet : (log : List (Event ℕ ℕ)) → noted p w words c log ≡ log

-- words store a word, over no register but that of addresses, and note nothing
pub record StoresWord (p : LineProgram) (w : Addresses) (words : List Word) (a n : ℕ) (c : Core) : Type 0 where
  pub core : Core
  pub acts : ran w words c ≡ Acts core
  pub others : (r : ℕ) → r ≢ help → register core r ≡ register c r
  pub memory : core.memory ≡ with_number 4 n a c.memory
  pub skip : core.skip ≡ false
  pub quiet : (log : List (Event ℕ ℕ)) → noted p w words c log ≡ log

abbrev pub FrameWordsAreLoaded : Type 0
FrameWordsAreLoaded =
    (p : LineProgram) (w : Addresses) (offset : ℤ) (d : ℕ) (c : Core) → d ≢ 0 → c.skip ≡ false → IsFrameWord p w (frame_word c offset)
    → LoadsWord p w (words_of (load_from offset d)) d (number_at 4 c.memory (frame_word c offset)) c

abbrev pub FrameWordsAreStored : Type 0
FrameWordsAreStored =
    (p : LineProgram) (w : Addresses) (offset : ℤ) (r : ℕ) (c : Core) → r ≢ help → c.skip ≡ false → IsFrameWord p w (frame_word c offset)
    → StoresWord p w (words_of (store_to offset r)) (frame_word c offset) (register c r) c
