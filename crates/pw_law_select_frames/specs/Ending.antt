-- A function that returns: behind its last words the state of its caller stands, before the result is taken.
use Rattle.std.specs.Prelude.{ℕ, ◌≡◌, ◌-◌, ◌<◌, ◌≤◌, List, [], length}
use Rattle.pw_inst.specs.Registers.{answer, return_address, stack_pointer}
use Rattle.pw_alloc.specs.Frames.{head_size}
use Rattle.pw_run_languages.specs.Programs.{globals_of}
use Rattle.pw_run_languages.specs.Addresses.{Addresses, AreLawful}
use Rattle.pw_run_languages.specs.Acts.{Core, register}
use Rattle.pw_run_languages.specs.Standing.{given_back}
use Rattle.pw_run_languages.specs.LineRun as run
use Rattle.pw_run_languages.specs.LineRun.{LineProgram, Frame}
use Rattle.pw_run_languages.specs.FlowRun.{end_from}
use Rattle.pw_run_languages.specs.PlacedRun as placed
use Rattle.pw_run_languages.specs.PlacedRun.{Machine, with_registers, without_scratch}
use Rattle.pw_run_languages.specs.Serving.{IsTempRegister}
use Rattle.pw_law_select_rows.specs.Straight.{words_of}
use Rattle.pw_law_select_states.specs.Laid.{address, Lives}
use Rattle.pw_law_select_states.specs.States.{Stands}
use Rattle.pw_law_select_frames.specs.Going.{Goes}
use Rattle.pw_law_select_frames.specs.Leaving.{leaving}
use Rattle.pw_law_select_frames.specs.Chain.{frame_top, IsActive, Waits}
use Rattle.pw_law_select_frames.specs.Extending.{KeepsObjects}

-- the placed run's state with the caller, before it takes the result
abbrev pub given_to : placed.Frame → List placed.Frame → Machine → Machine
given_to caller callers m = record m {
  frame = caller;
  callers = callers;
  registers = without_scratch (with_registers m.frame.saved m.registers);
  objects = end_from (length m.objects - m.frame.base) m.frame.base m.objects;
}

-- A function may end: its state stands, whatever it saved, and so does its caller's.
pub record MayEnd (lines : LineProgram) (w : Addresses) (site : ℕ → ℕ) (m : Machine) (l : Frame) (caller : placed.Frame) (waiting : Frame) (c : Core) : Type 0 where
  pub lawful : AreLawful lines.flow w
  pub stands : Stands lines.flow w site m c
  pub active : IsActive (address lines.flow w site) c.memory m.frame l
  pub top : register c stack_pointer ≡ frame_top m.frame l
  pub waits : Waits lines.flow w site m.objects c.memory m.frame l.stack caller waiting
  pub base : m.frame.base ≤ length m.objects
  pub globals : (o : ℕ) → o < length (globals_of lines.flow) → o < m.frame.base

-- It has ended: the caller's state stands, with the return address and the stack pointer as at the call, and with the answer.
pub record Ends (lines : LineProgram) (w : Addresses) (site : ℕ → ℕ) (m : Machine) (l : Frame) (caller : placed.Frame) (callers : List placed.Frame) (waiting : Frame) (c : Core) : Type 0 where
  pub core : Core
  pub goes : Goes lines w (words_of (leaving m.frame.function)) [] c core
  pub stands : Stands lines.flow w site (given_to caller callers m) core
  pub keeps : KeepsObjects site site m.objects (given_to caller callers m).objects
  pub older : (o : ℕ) → Lives (given_to caller callers m).objects o → o < m.frame.base
  pub link : register core return_address ≡ run.return_address w waiting waiting.left
  pub pointer : register core stack_pointer ≡ l.stack
  pub value : register core answer ≡ register c answer
  pub temps : (r : ℕ) → IsTempRegister r → register core r ≡ given_back c.memory (frame_top m.frame l - head_size m.frame.function.body) 0 m.frame.function.saved c.registers r
  pub memory : core.memory ≡ c.memory

abbrev pub FunctionsEnd : Type 0
FunctionsEnd =
    (lines : LineProgram) (w : Addresses) (site : ℕ → ℕ) (m : Machine) (l : Frame) (caller : placed.Frame) (callers : List placed.Frame) (waiting : Frame) (c : Core)
    → MayEnd lines w site m l caller waiting c → Ends lines w site m l caller callers waiting c
