-- One step of the machine over its input and output, and runs of many steps.
use Rattle.std.specs.Prelude.{ℕ, zero, suc, ◌+◌, List, [], ◌∷◌, ◌++◌, Option, Some, None}
use Rattle.pw_value.specs.Words.{end_of_input}
use Rattle.pw_inst.specs.Registers.{answer}
use Rattle.pw_machine.specs.declared.ends.End.{End}
use Rattle.pw_machine.specs.Core.{Core, with_register, advanced}
use Rattle.pw_machine.specs.Effect.{Effect, Goes, Reads, Writes, Stops, effect_of}

-- the machine, the input that is left, and the output so far
pub record State : Type 0 where
  pub core : Core
  pub rest : List ℕ
  pub output : List ℕ

-- the state in which a run over an input starts
abbrev pub start_state : Core → List ℕ → State
start_state core input = record { core = core; rest = input; output = [] }

-- A run goes on, or has stopped.
pub data Progress : Type 0 where
  Running : State → Progress
  Stopped : End → State → Progress

-- The register of a call's result takes the answer of a BREAK, and the next instruction follows.
abbrev pub answered : Core → ℕ → Core
answered core value = with_register (advanced core) answer value

-- what a read answers: the byte, or -1 at the end of the input
abbrev pub input_word : Option ℕ → ℕ
input_word (Some byte) = byte
input_word None = end_of_input

-- BREAK 0,1 reads the first byte of the input.
abbrev pub reads : Core → List ℕ → List ℕ → Progress
reads core [] output = Running (record { core = answered core (input_word None); rest = []; output = output })
reads core (byte ∷ rest) output = Running (record { core = answered core (input_word (Some byte)); rest = rest; output = output })

-- what comes of a step's effect; the step that ends the run leaves all else as it was
abbrev pub taken : Effect → State → Progress
taken (Goes core) s = Running (record s { core = core })
taken Reads s = reads s.core s.rest s.output
taken (Writes byte) s = Running (record s { core = answered s.core byte; output = s.output ++ byte ∷ [] })
taken (Stops end) s = Stopped end (record s { core = record s.core { stopped = Some end } })

-- one step
abbrev pub step : State → Progress
step s = taken (effect_of s.core) s

-- a step, where the run has not stopped
abbrev pub goes_on : Progress → Progress
goes_on (Running s) = step s
goes_on (Stopped end s) = Stopped end s

-- a state as the beginning of a run, which may have stopped before
abbrev pub began : Option End → State → Progress
began None s = Running s
began (Some end) s = Stopped end s

-- the first m steps of the run from a state; once it has stopped it stays as it is
unfoldable pub run_of : ℕ → State → Progress
run_of zero s = began s.core.stopped s
run_of (suc m) s = goes_on (run_of m s)

-- 1 where the run goes on
abbrev pub step_count : Progress → ℕ
step_count (Running s) = 1
step_count (Stopped end s) = 0

-- how many of the first m steps are taken: those at which the run has not stopped before
unfoldable pub steps_of : ℕ → State → ℕ
steps_of zero s = 0
steps_of (suc m) s = steps_of m s + step_count (run_of m s)

-- a run that goes on for n more steps
abbrev pub continued : ℕ → Progress → Progress
continued n (Running s) = run_of n s
continued n (Stopped end s) = Stopped end s
