-- How a function begins: the stack is checked, the return address goes into the caller's frame, and the stack pointer to the
-- end of its own.
use Rattle.std.specs.Prelude.{ℕ, false, ◌≡◌, ◌≢◌, ◌+◌, ◌-◌, ◌%◌, ◌^◌, ◌<◌, ◌≤◌, List, [], ◌++◌}
use Rattle.pw_inst.specs.Registers.{help, second, return_address, stack_pointer}
use Rattle.pw_inst.specs.declared.line.Line.{Line}
use Rattle.pw_alloc.specs.Frames.{link_place}
use Rattle.pw_delay.specs.declared.items.Item.{Item}
use Rattle.pw_delay.specs.Items.{slotted}
use Rattle.pw_select.specs.Selection.{entry_lines}
use Rattle.pw_run.specs.Runs.{StackFull}
use Rattle.pw_run_languages.specs.Addresses.{Addresses, AreLawful}
use Rattle.pw_run_languages.specs.Acts.{Core, register, with_number}
use Rattle.pw_run_languages.specs.LineRun.{LineProgram, Machine, On, Stopped, steps, shown}
use Rattle.pw_law_select_rows.specs.Straight.{words_of}
use Rattle.pw_law_select_states.specs.Passes.{IsAmid}
use Rattle.pw_law_select_states.specs.States.{IsOfWords}
use Rattle.pw_law_select_frames.specs.Going.{Goes}

-- where the stack holds a frame of so many bytes
pub record Enters (p : LineProgram) (w : Addresses) (frame : ℕ) (c : Core) : Type 0 where
  pub core : Core
  pub goes : Goes p w (words_of (entry_lines frame)) [] c core
  pub holds : IsOfWords core
  pub pointer : register core stack_pointer ≡ register c stack_pointer + frame
  pub others : (r : ℕ) → r ≢ help → r ≢ second → r ≢ stack_pointer → register core r ≡ register c r
  pub memory : core.memory ≡ with_number 4 (register c return_address) (register c stack_pointer - link_place) c.memory

abbrev pub FramesAreEntered : Type 0
FramesAreEntered =
    (p : LineProgram) (w : Addresses) (frame : ℕ) (c : Core) → AreLawful p.flow w → c.skip ≡ false → IsOfWords c
    → register c stack_pointer % 4 ≡ 0 → w.base ≤ register c stack_pointer → register c stack_pointer + frame ≤ w.limit → Enters p w frame c

-- where it does not, the run stops, and has shown what it had shown before
pub record StopsFull (p : LineProgram) (w : Addresses) (scratch : ℕ → (ℕ → ℕ) → ℕ → ℕ) (m : Machine) : Type 0 where
  pub count : ℕ
  pub last : Machine
  pub is : steps p w scratch count (On m) ≡ Stopped StackFull last
  pub same : shown last last.trace ≡ shown m m.trace
  pub amid : (before : List Item) → m.frame.function.items ≡ before ++ m.frame.left → (k : ℕ) (n : Machine) → 0 < k → k ≤ count → steps p w scratch k (On m) ≡ On n → IsAmid n.frame

abbrev pub FullStacksStop : Type 0
FullStacksStop =
    (p : LineProgram) (w : Addresses) (scratch : ℕ → (ℕ → ℕ) → ℕ → ℕ) (frame : ℕ) (rest : List Line) (m : Machine) → AreLawful p.flow w → m.core.skip ≡ false
    → w.limit < register m.core stack_pointer + frame → register m.core stack_pointer + frame < 2 ^ 32
    → m.frame.left ≡ slotted (entry_lines frame ++ rest) → StopsFull p w scratch m
