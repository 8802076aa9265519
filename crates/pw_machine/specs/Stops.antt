-- What a call of `run` answers, by the run of the machine that it took.
use Rattle.std.specs.Prelude.{◌≡◌, ℕ, ◌+◌, ◌-◌, ◌^◌, ◌<◌, ◌≤◌, min, List, [], Option, Some, None, IfSome}
use Rattle.pw_machine.specs.declared.ends.End.{End}
use Rattle.pw_machine.specs.declared.ends.End.TheVariants as end
use Rattle.pw_machine.specs.declared.ends.Stop.{Stop}
use Rattle.pw_machine.specs.declared.ends.Stop.TheVariants.{Ended, StackStop, Spent, Halted, ReadFault, WriteFault}
use Rattle.pw_io.specs.Faults.{Rose}
use Rattle.pw_io.specs.Streams.{Appends}
use Rattle.pw_image.specs.declared.image.Image.{Image}
use Rattle.pw_machine.specs.Core.{Core}
use Rattle.pw_machine.specs.Start.{image_start}
use Rattle.pw_machine.specs.Effect.{Reads, Writes, effect_of}
use Rattle.pw_machine.specs.Run.{State, Running, Stopped, run_of, steps_of}

-- A machine as a caller sees it: its state, and how many steps it took since the start.
pub record Snapshot : Type 0 where
  pub core : Core
  pub steps : ℕ

-- a machine before its first step
abbrev pub at_start : Core → Snapshot
at_start core = record { core = core; steps = 0 }

-- the machine at the start of an image's program
abbrev pub loaded : Image → Snapshot
loaded v = at_start (image_start v.memory)

-- the end that an answer tells
abbrev pub end_of : Stop → Option End
end_of (Ended status) = Some (end.Ended status)
end_of StackStop = Some end.StackStop
end_of Spent = None
end_of (Halted halt at) = Some (end.Halted halt at)
end_of ReadFault = None
end_of WriteFault = None

-- A fault leaves the machine before the BREAK that would have read or written.
abbrev pub IsBeforeBreak : Stop → Core → Type 0
IsBeforeBreak (Ended status) core = Unit {0}
IsBeforeBreak StackStop core = Unit {0}
IsBeforeBreak Spent core = Unit {0}
IsBeforeBreak (Halted halt at) core = Unit {0}
IsBeforeBreak ReadFault core = effect_of core ≡ Reads
IsBeforeBreak WriteFault core = (byte : ℕ) × (effect_of core ≡ Writes byte)

-- The answer `ReadFault` comes only where the input's count of faults rose; every other leaves it.
abbrev pub ReadCount : ℕ → ℕ → Stop → Type 0
ReadCount before now (Ended status) = now ≡ before
ReadCount before now StackStop = now ≡ before
ReadCount before now Spent = now ≡ before
ReadCount before now (Halted halt at) = now ≡ before
ReadCount before now ReadFault = Rose before now
ReadCount before now WriteFault = now ≡ before

-- The answer `WriteFault` comes only where the output's count of faults rose; every other leaves it.
abbrev pub WriteCount : ℕ → ℕ → Stop → Type 0
WriteCount before now (Ended status) = now ≡ before
WriteCount before now StackStop = now ≡ before
WriteCount before now Spent = now ≡ before
WriteCount before now (Halted halt at) = now ≡ before
WriteCount before now ReadFault = now ≡ before
WriteCount before now WriteFault = Rose before now

-- `n` steps were taken: for `Spent` the whole budget, for a fault fewer, and for an end no more.
abbrev pub StepsFit : Stop → ℕ → ℕ → Type 0
StepsFit (Ended status) budget n = n ≤ budget
StepsFit StackStop budget n = n ≤ budget
StepsFit Spent budget n = n ≡ budget
StepsFit (Halted halt at) budget n = n ≤ budget
StepsFit ReadFault budget n = n < budget
StepsFit WriteFault budget n = n < budget

-- The run from a state comes to the answer within the budget, in n steps, and to the last state:
--   an end is that of the run of `budget` steps;
--   `Spent` says that this run has not stopped;
--   a fault comes at the step after n others, which would read or write.
abbrev pub RunStops : State → ℕ → Stop → ℕ → State → Type 0
RunStops start budget (Ended status) n last = (n ≡ steps_of budget start) × (run_of budget start ≡ Stopped (end.Ended status) last)
RunStops start budget StackStop n last = (n ≡ steps_of budget start) × (run_of budget start ≡ Stopped end.StackStop last)
RunStops start budget Spent n last = (n ≡ budget) × (run_of budget start ≡ Running last)
RunStops start budget (Halted halt at) n last = (n ≡ steps_of budget start) × (run_of budget start ≡ Stopped (end.Halted halt at) last)
RunStops start budget ReadFault n last = (n < budget) × (run_of n start ≡ Running last)
RunStops start budget WriteFault n last = (n < budget) × (run_of n start ≡ Running last)

-- What the run from a processor over this input leaves: `left` of the input, and `output` was appended
-- to what the sink took.
pub record IsRunFrom (old : Core) (input : List ℕ) (taken : Option (List ℕ)) (budget : ℕ) (stop : Stop) (n : ℕ) (new : Core) (rest' taken' : Option (List ℕ)) : Type 0 where
  pub left : List ℕ
  pub output : List ℕ
  pub rest_is : rest' ≡ Some left
  pub taken_is : Appends taken taken' output
  pub comes : RunStops (record { core = old; rest = input; output = [] }) budget stop n (record { core = new; rest = left; output = output })

-- the same of a source that may tell nothing, of whose bytes then nothing is said
abbrev pub RunsOver : Core → Option (List ℕ) → Option (List ℕ) → ℕ → Stop → ℕ → Core → Option (List ℕ) → Option (List ℕ) → Type 0
RunsOver old rest taken budget stop n new rest' taken' = IfSome rest (λ input. IsRunFrom old input taken budget stop n new rest' taken')

-- What a call of `run` answers and leaves, in so many steps. The count of steps stays at the greatest
-- 128-bit number.
pub record IsRun (old : Snapshot) (rest taken : Option (List ℕ)) (budget : ℕ) (stop : Stop) (new : Snapshot) (rest' taken' : Option (List ℕ)) : Type 0 where
  pub steps : ℕ
  pub fits : StepsFit stop budget steps
  pub counted : new.steps ≡ min (old.steps + steps) (2 ^ 128 - 1)
  pub over : RunsOver old.core rest taken budget stop steps new.core rest' taken'

-- A machine that has stopped answers its end again, and stays as it is, as do its input and its output.
abbrev pub StaysStopped : {I O : Type 0} → Snapshot → Stop → Snapshot → I → I → O → O → Type 0
StaysStopped old stop new input input' out out' =
    IfSome old.core.stopped (λ end. (end_of stop ≡ Some end) × (new ≡ old) × (input' ≡ input) × (out' ≡ out))
