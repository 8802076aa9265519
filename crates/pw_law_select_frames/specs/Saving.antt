-- Registers that a function saves at its start, and gives back at its end.
use Rattle.std.specs.Prelude.{ℕ, false, ◌≡◌, ◌≢◌, ◌+◌, ◌-◌, ◌*◌, ◌%◌, ◌<◌, ◌≤◌, ◌⊎◌, Some, List, [], length, slice_get}
use Rattle.std.specs.List.{AllByRecursion}
use Rattle.pw_inst.specs.Registers.{help, stack_pointer}
use Rattle.pw_select_lines.specs.Registers.{load_from, store_to}
use Rattle.pw_select.specs.Selection.{saved_lines}
use Rattle.pw_run_languages.specs.Addresses.{Addresses, AreLawful}
use Rattle.pw_run_languages.specs.Acts.{Core, register, number_at}
use Rattle.pw_run_languages.specs.LineRun.{LineProgram}
use Rattle.pw_run_languages.specs.Serving.{IsTempRegister}
use Rattle.pw_run_languages.specs.Standing.{given_back}
use Rattle.pw_law_select_rows.specs.Straight.{words_of}
use Rattle.pw_law_select_states.specs.States.{IsOfWords}
use Rattle.pw_law_select_frames.specs.Going.{Goes}
use Rattle.pw_law_select_frames.specs.Stack.{IsTop}

-- registers may be saved behind so many bytes of the frame, and given back
pub record MaySave (p : LineProgram) (w : Addresses) (head : ℕ) (saved : List ℕ) (c : Core) : Type 0 where
  pub lawful : AreLawful p.flow w
  pub skip : c.skip ≡ false
  pub holds : IsOfWords c
  pub top : IsTop w (register c stack_pointer) (head + 4 * length saved)
  pub aligned : head % 4 ≡ 0
  pub registers : AllByRecursion IsTempRegister saved

-- each register's word stands in its place
pub record Saves (p : LineProgram) (w : Addresses) (head : ℕ) (saved : List ℕ) (c : Core) : Type 0 where
  pub core : Core
  pub goes : Goes p w (words_of (saved_lines store_to head 0 saved)) [] c core
  pub holds : IsOfWords core
  pub stand : (i r : ℕ) → slice_get saved i ≡ Some r → number_at 4 core.memory (register c stack_pointer - (head + 4 * (i + 1))) ≡ register c r
  pub others : (r : ℕ) → r ≢ help → register core r ≡ register c r
  pub memory : (b : ℕ) → (b + (head + 4 * length saved) < register c stack_pointer) ⊎ (register c stack_pointer ≤ b + head) → core.memory b ≡ c.memory b

abbrev pub RegistersAreSaved : Type 0
RegistersAreSaved = (p : LineProgram) (w : Addresses) (head : ℕ) (saved : List ℕ) (c : Core) → MaySave p w head saved c → Saves p w head saved c

-- the registers hold what stands there
pub record Restores (p : LineProgram) (w : Addresses) (head : ℕ) (saved : List ℕ) (c : Core) : Type 0 where
  pub core : Core
  pub goes : Goes p w (words_of (saved_lines load_from head 0 saved)) [] c core
  pub holds : IsOfWords core
  pub registers : (r : ℕ) → r ≢ 0 → r ≢ help → register core r ≡ given_back c.memory (register c stack_pointer - head) 0 saved c.registers r
  pub memory : core.memory ≡ c.memory

abbrev pub RegistersAreRestored : Type 0
RegistersAreRestored = (p : LineProgram) (w : Addresses) (head : ℕ) (saved : List ℕ) (c : Core) → MaySave p w head saved c → Restores p w head saved c
