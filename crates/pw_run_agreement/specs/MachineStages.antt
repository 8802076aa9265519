-- The machine's run as it is seen from outside: each of its steps counts as an event, and it notes nothing.
use Rattle.std.specs.Prelude.{ℕ, ◌-◌, List, [], length}
use Rattle.pw_machine.specs.declared.ends.End.TheVariants as machine
use Rattle.pw_machine.specs.Core.{Core}
use Rattle.pw_machine.specs.Run.{State, Progress, Running, Stopped, run_of}
use Rattle.pw_run.specs.Runs.{View, Stage, Going, Over, Wrong, Ended, StackFull}

-- what is noted of a run whose moments are no matter
pub data Nothing : Type 0 where

abbrev pub shown : List ℕ → ℕ → State → View Nothing
shown input steps s = record { output = s.output; read = length input - length s.rest; events = steps; log = [] }

-- A machine that halts has gone wrong.
abbrev pub staged : List ℕ → ℕ → Progress → Stage Nothing
staged input steps (Running s) = Going (shown input steps s)
staged input steps (Stopped (machine.Ended status) s) = Over (Ended status) (shown input steps s)
staged input steps (Stopped machine.StackStop s) = Over StackFull (shown input steps s)
staged input steps (Stopped _ s) = Wrong

-- the machine over an input, from a state of registers and memory
unfoldable pub machine_run : Core → List ℕ → ℕ → Stage Nothing
machine_run core input n = staged input n (run_of n (record { core = core; rest = input; output = [] }))
