-- What the machine's run within a budget tells of a run of the source that meets no undefined operation.
use Rattle.std.specs.Prelude.{◌≡◌, ℕ, ◌-◌, List, [], ◌++◌, length}
use Rattle.pw_machine.specs.declared.ends.End.TheVariants.{Ended, StackStop, Halted}
use Rattle.pw_machine.specs.Run.{State, Progress, Running, Stopped}
use Rattle.pw_run_agreement.specs.Agreement.{SourceEnd, SourceRun, Ends, Stack}

-- the source's run ended so, with the machine's output, and read as many bytes of the input
pub record IsThatOf (r : SourceRun) (how : SourceEnd) (input : List ℕ) (last : State) : Type 0 where
  pub end : r.end ≡ how
  pub output : r.output ≡ last.output
  pub read : r.read ≡ length input - length last.rest

-- the machine's output is a prefix of the source's
pub record IsPrefixOf (r : SourceRun) (last : State) : Type 0 where
  pub more : List ℕ
  pub output : r.output ≡ last.output ++ more

-- A machine that ended, or stopped for want of stack, did as the source; one whose budget is spent wrote a prefix of what
-- the source writes; and none halts.
abbrev pub Tells : List ℕ → Progress → SourceRun → Type 0
Tells input (Stopped (Ended status) last) r = IsThatOf r (Ends status) input last
Tells input (Stopped StackStop last) r = IsThatOf r Stack input last
Tells input (Stopped (Halted halt at) last) r = ⊥
Tells input (Running last) r = IsPrefixOf r last
