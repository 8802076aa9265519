-- The run of lines is met by the machine's, where the functions keep the stack pointer and the machine starts as the lines do.
use Rattle.std.specs.Prelude.{ℕ, ◌≡◌, ◌+◌, ◌≤◌, None, List}
use Rattle.pw_machine.specs.Core.{Core, word_at}
use Rattle.pw_machine.specs.Run.{State, Running, run_of, continued}
use Rattle.pw_law_code.specs.Lawful.{IsLawful, IsLater, HasSameText, state_of}
use Rattle.pw_run.specs.Runs.{Refines, Same}
use Rattle.pw_run_languages.specs.LineRun.{LineFn, steps, start, line_run}
use Rattle.pw_run_languages.specs.MachineRun.{start_state, traced_run}
use Rattle.pw_law_link_run.specs.Steps.{Setting, map_in, IsSetting}
use Rattle.pw_law_link_run.specs.Simulating.{IsLinked, HasLibrary}
use Rattle.pw_law_link_run.specs.Routines.{HasRoutines}
use Rattle.pw_law_link_run.specs.Leveled.{AreFramed, IsMet}
use Rattle.pw_law_link_run.specs.Starting.{IsStart}
use Rattle.pw_law_link_run.proofs.Scratch.{some_left}
use Rattle.pw_law_link_run.proofs.Running.{steps_meet, runs_meet}
use Rattle.pw_law_link_run.proofs.Steadying.{levels, runs_are_steady}
use Rattle.pw_law_link_run.proofs.Starting.{start_meets, start_in_level}

pub framed_runs_meet : (x : Setting) → IsLinked x → HasLibrary x → HasRoutines x → AreFramed x
    → (scratch : ℕ → (ℕ → ℕ) → ℕ → ℕ) × ((core : Core) (input : List ℕ) (f : LineFn) → x.start ≡ start_state core input → IsStart x f input
    → Refines Same (line_run x.program x.addresses scratch input) (traced_run (map_in x) core input))
framed_runs_meet x l lib has fr =
    let words = some_left x has in (
      words.0,
      λ core input f start_is first.
          runs_meet x l lib has words.0 words.1 core input start_is
          (start_meets x l (record { saved = tt; globals = fr.globals }) f input first)
          (runs_are_steady x l fr words.0 (start x.program x.addresses input) (start_in_level x fr f input first)),
    )

-- each step of the run
pub framed_steps_meet : (x : Setting) → IsLinked x → HasLibrary x → HasRoutines x → (fr : AreFramed x)
    → (scratch : ℕ → (ℕ → ℕ) → ℕ → ℕ) × ((input : List ℕ) (f : LineFn) → IsStart x f input
    → (n : ℕ) → IsMet x fr (steps x.program x.addresses scratch n (start x.program x.addresses input)))
framed_steps_meet x l lib has fr =
    let words = some_left x has in (
      words.0,
      λ input f first n.
          let s = start x.program x.addresses input in
          let level = start_in_level x fr f input first in
          record {
            comes = steps_meet x l lib has words.0 words.1 s (runs_are_steady x l fr words.0 s level)
                (start_meets x l (record { saved = tt; globals = fr.globals }) f input first) n;
            level = levels x l fr words.0 s level n;
          },
    )

-- a lawful state from which the machine starts
pub lawful_setting : ((m : ℕ) (s : State) → IsLawful s → IsLater s (state_of (run_of m s)))
    → ((old new : Core) (a : ℕ) → HasSameText old new → a + 4 ≤ old.data_start → word_at new.memory a ≡ word_at old.memory a)
    → ((m n : ℕ) (start : State) → run_of (m + n) start ≡ continued n (run_of m start))
    → ((m : ℕ) (start mid : State) → run_of m start ≡ Running mid → mid.core.stopped ≡ None)
    → (x : Setting) → IsLawful x.start → x.start.core.data_start ≡ x.addresses.data_start → IsSetting x
lawful_setting later stays sums going x lawful starts = record {
  starts = starts;
  keeps = λ k. later k x.start lawful;
  words = λ new a same low. stays x.start.core new a same low;
  sums = λ k n. sums k n x.start;
  going = λ k mid e. going k x.start mid e;
}
