-- The registers that a call keeps, in an image that runs: the return from a function finds in each of them what the call
-- left there, but for the registers of webs in which the function is a member, and those that it is free to use. It is read
-- by the map of the image and by the directives alone.
use Rattle.std.specs.Prelude.{ℕ, ◌≡◌, ◌<◌, ◌≤◌, true, false, Some, List, []}
use Rattle.pw_db.specs.Limits.{first_register, last_register}
use Rattle.pw_db.specs.declared.database.Directives.{Directives}
use Rattle.pw_image.specs.declared.image.Image.{Image}
use Rattle.pw_machine.specs.Core.{Core, register}
use Rattle.pw_machine.specs.Start.{image_start}
use Rattle.pw_machine.specs.Run.{State, Progress, Running, run_of}
use Rattle.pw_db_sound.specs.Sound.{IsSaver}
use Rattle.pw_run_languages.specs.Traces.{MayChange}
use Rattle.pw_run_languages.specs.ImageTrace.{Call, function_at, has_returned, start_state, symbols_of}

-- the image's run on an input, after so many steps
abbrev pub run_after : Image → List ℕ → ℕ → Progress
run_after v input n = run_of n (start_state (image_start v.memory) input)

-- the call of a function, where the machine arrives at its address
abbrev pub call_at : List ℕ → Core → Call
call_at f c = record { function = f; link = register c 2; stack = register c 30 }

-- A function is called after n steps, and that call returns after m: at the first state behind the call that stands at its
-- return address with the stack pointer as it was. Which function stands at an address the map tells; globals are no matter here.
pub record CallReturns (v : Image) (input : List ℕ) (f : List ℕ) (n m : ℕ) (called returned : State) : Type 0 where
  pub called_after : run_after v input n ≡ Running called
  pub stands_at : function_at (symbols_of v []) called.core.front ≡ Some f
  pub goes : called.core.nullify ≡ false
  pub later : n < m
  pub returned_after : run_after v input m ≡ Running returned
  pub back : has_returned returned.core (call_at f called.core) ≡ true
  pub first : (k : ℕ) (between : State) → n < k → k < m → run_after v input k ≡ Running between → has_returned between.core (call_at f called.core) ≡ false

-- Over each call of a function each register that a callee keeps stays as it was, but that of a web in which the function is
-- a member, and one that it is free to use.
abbrev pub CallsKeepRegisters : List (List ℕ × Directives) → Image → List ℕ → Type 0
CallsKeepRegisters d v input =
    (f : List ℕ) (n m : ℕ) (called returned : State) → CallReturns v input f n m called returned →
    (r : ℕ) → first_register ≤ r → r ≤ last_register → ¬ MayChange d f r → register returned.core r ≡ register called.core r

-- so does each register that the function saves for others
abbrev pub SavedRegistersComeBack : List (List ℕ × Directives) → Image → List ℕ → Type 0
SavedRegistersComeBack d v input =
    (f : List ℕ) (n m : ℕ) (called returned : State) → CallReturns v input f n m called returned →
    (r : ℕ) → IsSaver d f r → register returned.core r ≡ register called.core r
