-- Arguments of a call: the first four in registers, the others in the caller's frame.
use Rattle.std.specs.Prelude.{ℕ, false, ◌≡◌, ◌≢◌, ◌+◌, ◌-◌, ◌*◌, ◌<◌, ◌≤◌, ◌⊎◌, nat_lt, if◌then◌else◌, Some, List, [], ◌++◌, length, take, drop, slice_get}
use Rattle.std.specs.List.{AllByRecursion}
use Rattle.pw_inst.specs.Registers.{help, first, stack_pointer, argument_register}
use Rattle.pw_inst.specs.declared.line.Line.{Line}
use Rattle.pw_alloc.specs.declared.located.Place.{Place}
use Rattle.pw_alloc.specs.Frames.{head_bytes, first_stacked, below}
use Rattle.pw_run_languages.specs.Addresses.{Addresses, AreLawful}
use Rattle.pw_run_languages.specs.Acts.{Core, register, number_at}
use Rattle.pw_run_languages.specs.LineRun.{LineProgram}
use Rattle.pw_select_lines.specs.Registers.{loaded}
use Rattle.pw_select_lines.specs.Operations.{stacked_arguments, register_arguments}
use Rattle.pw_law_select_rows.specs.Straight.{words_of}
use Rattle.pw_law_select_rows.specs.Places.{place_word}
use Rattle.pw_law_select_states.specs.States.{IsOfWords}
use Rattle.pw_law_select_frames.specs.Going.{Goes}
use Rattle.pw_law_select_frames.specs.Stack.{IsTop, IsPlaceBelow}

-- the word of the argument of a number, by the stack pointer at the call
abbrev pub argument_word : Core → ℕ → ℕ → ℕ
argument_word c stack k =
    if nat_lt k 4 then register c (argument_register k) else number_at 4 c.memory (stack - (first_stacked + 4 * (k - 4)))

-- what so many arguments take of the caller's frame
abbrev pub arguments_size : ℕ → ℕ
arguments_size n = head_bytes + 4 * (n - 4)

-- Arguments may be passed: the frame has room for them, and their places are registers, or words of the frame that stand
-- lower than those to which they go.
pub record MayPass (p : LineProgram) (w : Addresses) (args : List Place) (c : Core) : Type 0 where
  pub lawful : AreLawful p.flow w
  pub skip : c.skip ≡ false
  pub holds : IsOfWords c
  pub top : IsTop w (register c stack_pointer) (arguments_size (length args))
  pub places : AllByRecursion (IsPlaceBelow w (register c stack_pointer) (arguments_size (length args)) (register c stack_pointer)) args

-- The words bring them there, over no other register but those of operands and addresses and over no other memory.
pub record Passes (p : LineProgram) (w : Addresses) (lines : List Line) (args : List Place) (c : Core) : Type 0 where
  pub core : Core
  pub goes : Goes p w (words_of lines) [] c core
  pub holds : IsOfWords core
  pub stand : (k : ℕ) (a : Place) → slice_get args k ≡ Some a → argument_word core (register c stack_pointer) k ≡ place_word c a
  pub registers : (r : ℕ) → r ≢ help → (r < first) ⊎ (argument_register 0 < r) → register core r ≡ register c r
  pub memory : (b : ℕ) → (b + arguments_size (length args) < register c stack_pointer) ⊎ (register c stack_pointer ≤ b + head_bytes) → core.memory b ≡ c.memory b

abbrev pub passing : List Place → List Line
passing args = stacked_arguments (below first_stacked) (drop 4 args) ++ register_arguments (argument_register 0) (take 4 args)

abbrev pub passing_by_value : Place → List Place → List Line
passing_by_value f args =
    stacked_arguments (below first_stacked) (drop 4 args) ++ loaded f first ++ register_arguments (argument_register 0) (take 4 args)

abbrev pub ArgumentsArePassed : Type 0
ArgumentsArePassed = (p : LineProgram) (w : Addresses) (args : List Place) (c : Core) → MayPass p w args c → Passes p w (passing args) args c

-- where a function is called through a value, that stays in its register
pub record PassesBoth (p : LineProgram) (w : Addresses) (f : Place) (args : List Place) (c : Core) : Type 0 where
  pub passes : Passes p w (passing_by_value f args) args c
  pub value : register passes.core first ≡ place_word c f

abbrev pub ArgumentsArePassedByValue : Type 0
ArgumentsArePassedByValue =
    (p : LineProgram) (w : Addresses) (f : Place) (args : List Place) (c : Core) → MayPass p w args c
    → IsPlaceBelow w (register c stack_pointer) (arguments_size (length args)) (register c stack_pointer) f → PassesBoth p w f args c
