-- Parameters: each argument comes to the place of its temporary.
use Rattle.std.specs.Prelude.{ℕ, ℤ, false, ◌≡◌, ◌≢◌, ◌+◌, ◌-◌, ◌%◌, ◌^◌, ◌<◌, ◌≤◌, ◌⊎◌, List, []}
use Rattle.pw_inst.specs.Computing.{offset_by}
use Rattle.pw_inst.specs.Registers.{help, first, stack_pointer}
use Rattle.pw_alloc.specs.declared.located.Place.{Place}
use Rattle.pw_alloc.specs.declared.located.Place.TheVariants.{Slot, Reg}
use Rattle.pw_select_lines.specs.Registers.{place_of}
use Rattle.pw_select.specs.Selection.{parameters_in}
use Rattle.pw_run_languages.specs.Addresses.{Addresses, AreLawful}
use Rattle.pw_run_languages.specs.Acts.{Core, register}
use Rattle.pw_run_languages.specs.LineRun.{LineProgram}
use Rattle.pw_law_select_rows.specs.Straight.{words_of}
use Rattle.pw_law_select_rows.specs.Places.{place_word}
use Rattle.pw_law_select_states.specs.States.{IsOfWords}
use Rattle.pw_law_select_frames.specs.Going.{Goes}
use Rattle.pw_law_select_frames.specs.Stack.{IsTop, IsPlaceBelow}
use Rattle.pw_law_select_frames.specs.Arguments.{argument_word, arguments_size}

-- So many parameters may come to their places: those are places of the frame, no two of them the same, and the arguments
-- behind the fourth stand in the caller's frame.
pub record MayReceive (p : LineProgram) (w : Addresses) (frame : ℕ) (places : List Place) (n : ℕ) (c : Core) : Type 0 where
  pub lawful : AreLawful p.flow w
  pub skip : c.skip ≡ false
  pub holds : IsOfWords c
  pub top : IsTop w (register c stack_pointer) frame
  pub aligned : frame % 4 ≡ 0
  pub stacked : 4 < n → w.base + frame + arguments_size n ≤ register c stack_pointer
  pub words : (k : ℕ) → k < n → argument_word c (register c stack_pointer - frame) k < 2 ^ 32
  pub inside : (k : ℕ) → k < n → IsPlaceBelow w (register c stack_pointer) 0 frame (place_of places k)
  pub apart : (j k : ℕ) → j < n → k < n → j ≢ k → place_of places j ≢ place_of places k

-- each stands there, and all else is as it was but the registers of operands and addresses
pub record Receives (p : LineProgram) (w : Addresses) (frame : ℕ) (places : List Place) (n : ℕ) (c : Core) : Type 0 where
  pub core : Core
  pub goes : Goes p w (words_of (parameters_in frame places 0 n)) [] c core
  pub holds : IsOfWords core
  pub stand : (k : ℕ) → k < n → place_word core (place_of places k) ≡ argument_word c (register c stack_pointer - frame) k
  pub registers : (r : ℕ) → r ≢ help → r ≢ first → ((k : ℕ) → k < n → place_of places k ≢ Reg r) → register core r ≡ register c r
  pub memory : (b : ℕ)
      → ((k : ℕ) (offset : ℤ) → k < n → place_of places k ≡ Slot offset → (b < offset_by (register c stack_pointer) offset) ⊎ (offset_by (register c stack_pointer) offset + 4 ≤ b))
      → core.memory b ≡ c.memory b

abbrev pub ParametersAreReceived : Type 0
ParametersAreReceived =
    (p : LineProgram) (w : Addresses) (frame : ℕ) (places : List Place) (n : ℕ) (c : Core) → MayReceive p w frame places n c → Receives p w frame places n c
