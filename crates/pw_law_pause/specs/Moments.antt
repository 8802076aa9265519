-- What runs of one program note, with different bounds and with different room on the stack.
use Rattle.std.specs.Prelude.{ℕ, ◌≡◌, false, nat_lt, List, ◌++◌}
use Rattle.pw_cmean.specs.Worlds.{World, depth}
use Rattle.pw_cmean.specs.Acts.{Moment}
use Rattle.pw_cmean.specs.SourceRun.{run_main, start_state}
use Rattle.pw_cmean.specs.Lasting.{state_behind}

-- the calls and returns up to a moment of the log, the latest first
abbrev pub IsOlder : List Moment → List Moment → Type 0
IsOlder before log = (later : List Moment) × (log ≡ later ++ before)

-- the calls and returns of a run within a bound, however it ended
abbrev pub noted_within : World → List ℕ → ℕ → List Moment
noted_within world input bound = (state_behind (run_main world bound (start_state world.program input))).moments

-- the active functions have room on the stack
abbrev pub HasRoom : World → List (List ℕ) → Type 0
HasRoom world active = nat_lt world.stack (depth world active) ≡ false

-- the same program, where functions take these frames on a stack of this size
abbrev pub with_stack : (List ℕ → ℕ) → ℕ → World → World
with_stack frame_of stack world = record world { frame_of = frame_of; stack = stack }
