-- Agreement of source and machine: for each bound, where the source's run ends, the machine's run ends with the same
-- status; where the active frames exceed the stack, it stops for that; where the bound is reached, it has run for at
-- least as many steps and goes on; where the source meets an undefined operation, the machine's run comes at least so far;
-- each time with the same output and the same count of bytes read. Of what the machine does behind an undefined operation
-- nothing is said.
use Rattle.std.specs.Prelude.{ℕ, List, []}
use Rattle.pw_run.specs.Runs.{View, Stage, Going, Over, Ended, StackFull, Refines, Whatever}
use Rattle.pw_machine.specs.Core.{Core}
use Rattle.pw_run_agreement.specs.MachineStages.{Nothing, machine_run}

-- how a run of the source ends within a bound
pub data SourceEnd : Type 0 where
  Ends : (status : ℕ) → SourceEnd
  Stack : SourceEnd
  -- the bound was reached
  Bound : SourceEnd
  -- an operation that has no meaning was met
  Undefined : SourceEnd

-- what a run of the source comes to within a bound
pub record SourceRun : Type 0 where
  pub end : SourceEnd
  pub output : List ℕ
  pub read : ℕ

-- The source's run with a bound as a stage: the bound is what it counted. Where it meets an undefined operation it may go on in any
-- way, behind what it has shown.
abbrev pub stage_by : ℕ → SourceRun → SourceEnd → Stage Nothing
stage_by n r (Ends status) = Over (Ended status) (record { output = r.output; read = r.read; events = 0; log = [] })
stage_by n r Stack = Over StackFull (record { output = r.output; read = r.read; events = 0; log = [] })
stage_by n r Bound = Going (record { output = r.output; read = r.read; events = n; log = [] })
stage_by n r Undefined = Going (record { output = r.output; read = r.read; events = 0; log = [] })

abbrev pub source_stages : (ℕ → SourceRun) → ℕ → Stage Nothing
source_stages run n = stage_by n (run n) (run n).end

-- the source's runs, by their bound, agree with the machine over an input
abbrev pub Agree : (ℕ → SourceRun) → Core → List ℕ → Type 0
Agree run core input = Refines Whatever (source_stages run) (machine_run core input)

abbrev pub IsMeaningful : SourceEnd → Type 0
IsMeaningful Undefined = ⊥
IsMeaningful _ = Unit {0}

-- the source meets no undefined operation, whatever the bound
abbrev pub IsDefined : (ℕ → SourceRun) → Type 0
IsDefined run = (n : ℕ) → IsMeaningful (run n).end
