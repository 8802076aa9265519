-- What the machine comes to, where the lines take a step.
use Rattle.std.specs.Prelude.{ℕ, ◌≡◌, ◌≢◌, ◌+◌, ◌≤◌, false, Some, None, List, length}
use Rattle.pw_inst.specs.declared.relocation.Symbol.TheVariants as symbol
use Rattle.pw_machine.specs.declared.ends.End.{End as MachineEnd}
use Rattle.pw_machine.specs.declared.ends.End.TheVariants as machine
use Rattle.pw_machine.specs.Core.{Core}
use Rattle.pw_machine.specs.Run.{Stopped, run_of}
use Rattle.pw_delay.specs.declared.items.Turn.{Turn}
use Rattle.pw_delay.specs.declared.items.Turn.TheVariants.{CallTo, CallReg, Leave}
use Rattle.pw_delay.specs.declared.items.Item.{Item}
use Rattle.pw_delay.specs.declared.items.Item.TheVariants.{Turns}
use Rattle.pw_delay.specs.Placement.{size}
use Rattle.pw_run.specs.Runs.{End, Ended, StackFull}
use Rattle.pw_run_languages.specs.Traces.{Event}
use Rattle.pw_run_languages.specs.Programs.{library_at}
use Rattle.pw_run_languages.specs.Acts as lines
use Rattle.pw_run_languages.specs.LineRun.{Machine, Step, On, Astray, function_at}
use Rattle.pw_run_languages.specs.LineRun as run
use Rattle.pw_run_languages.specs.MachineRun as noting
use Rattle.pw_law_link_run.specs.Steps.{Setting, map_in, AreInData}
use Rattle.pw_law_link_run.specs.Placing.{name_in}
use Rattle.pw_law_link_run.specs.Slots.{SlotDoes, behind_slot, behind_branch}
use Rattle.pw_law_link_run.specs.Simulating.{calls_from, calls_behind, Simulates, IsCalm, IsCalmInside, IsCalmPast, IsHigh}

-- ---- what it comes to

-- after some steps it shows the state
pub record RunsTo (x : Setting) (t : Machine) : Type 0 where
  pub steps : ℕ
  pub simulates : Simulates x t steps

abbrev pub end_as : End → MachineEnd
end_as (Ended status) = machine.Ended status
end_as StackFull = machine.StackStop

-- after some steps it stops as the lines do, with the same input, output and log
pub record EndsSo (x : Setting) (end : End) (t : Machine) : Type 0 where
  pub steps : ℕ
  pub core : Core
  pub runs : run_of steps x.start ≡ Stopped (end_as end) (record { core = core; rest = t.rest; output = t.out })
  pub log : (noting.noted (map_in x) x.start steps).log ≡ t.trace
  pub events : t.events ≤ steps
  pub read : t.read + length t.rest ≡ length x.start.rest

abbrev pub Meets : Setting → Step → Type 0
Meets x (On t) = RunsTo x t
Meets x (run.Stopped end t) = EndsSo x end t
Meets x Astray = Unit {0}

-- ---- where nothing seems to return

-- the state that a step comes to is calm, unless a function of the program has been entered
abbrev pub EntersCalm : Setting → Machine → Turn → Machine → Type 0
EntersCalm x m (CallTo (symbol.Named f) link) t = library_at f ≢ None → IsCalm x t
EntersCalm x m CallReg t =
    (f : List ℕ) → function_at x.program x.addresses (lines.register m.core 22) ≡ Some f → library_at f ≢ None → IsCalm x t
EntersCalm x m turn t = IsCalm x t

abbrev pub StepCalm : Setting → Machine → Item → Machine → Type 0
StepCalm x m (Turns turn slot) t = EntersCalm x m turn t
StepCalm x m item t = IsCalm x t

abbrev pub IsReturn : Item → Type 0
IsReturn (Turns Leave slot) = Unit {0}
IsReturn _ = ⊥

-- every other turn
abbrev pub IsTurning : Item → Type 0
IsTurning (Turns Leave slot) = ⊥
IsTurning (Turns turn slot) = Unit {0}
IsTurning _ = ⊥

-- at a turn, or at a return, that is not passed over
abbrev pub AtTurn : Machine → Item → Type 0
AtTurn m item = IsTurning item × (m.core.skip ≡ false)

abbrev pub AtReturn : Machine → Item → Type 0
AtReturn m item = IsReturn item × (m.core.skip ≡ false)

-- behind the slot of a turn the stack pointer is above those of all active calls
abbrev pub IsHighBehind : Setting → Machine → Item → Type 0
IsHighBehind x m (Turns turn slot) =
    (to : ℕ) (d : lines.Core) (es : List (Event ℕ ℕ)) → SlotDoes x slot (behind_branch turn to m.core) d es → IsHigh x (behind_slot d es m)
IsHighBehind x m item = Unit {0}

abbrev pub IsPastReturn : Setting → Machine → Item → Type 0
IsPastReturn x m (Turns turn slot) = IsCalmPast x m slot
IsPastReturn x m item = Unit {0}

-- Before an item is passed: behind every turn but a return the stack pointer is above those of all active calls, and
-- nothing begins at the words of a turn.
pub record IsSteady (x : Setting) (m : Machine) (item : Item) (s : Step) : Type 0 where
  pub high : AtTurn m item → IsHighBehind x m item
  pub inside : AtTurn m item → IsCalmInside x m (size (x.long (name_in m.frame.function)) item)
  pub saved : AtTurn m item → AreInData x (calls_from x m.frame m.callers)
  pub past : AtReturn m item → IsPastReturn x m item
  pub saved_behind : AtReturn m item → AreInData x (calls_behind x m.callers)
  pub next : (t : Machine) → s ≡ On t → StepCalm x m item t
