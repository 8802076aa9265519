-- What a machine owes to an outcome of the C run.
use Rattle.std.specs.Prelude.{ℕ, ◌≡◌, ◌+◌, ◌≤◌}
use Rattle.pw_cmean.specs.Worlds.{World}
use Rattle.pw_cmean.specs.Acts.{State, Ending, Undefined, StackFull, Exit, Bound, Wrong, Outcome, Gives, Ends}
use Rattle.pw_run.specs.Runs as run
use Rattle.pw_run.specs.Runs.{End, Ended}
use Rattle.pw_law_source.specs.FromRunLanguages.Programs.{Program}
use Rattle.pw_law_source.specs.FromRunLanguages.FlowRun.{Machine, On, Stopped, steps}
use Rattle.pw_law_refine.specs.Activations.{graphs}
use Rattle.pw_law_refine.specs.Matching.{Shows}

-- it comes to a machine of which this holds
pub record Reaches (p : Program) (m : Machine) (P : Machine → Type 0) : Type 0 where
  pub count : ℕ
  pub machine : Machine
  pub comes : steps p count (On m) ≡ On machine
  pub holds : P machine

-- it ends so, and has shown what the state has
pub record Stops (world : World) (end : End) (m : Machine) (s : State) : Type 0 where
  pub count : ℕ
  pub machine : Machine
  pub comes : steps (graphs world) count (On m) ≡ Stopped end machine
  pub shows : Shows world s machine

-- it comes to a machine that has counted so many events more, and has shown what the state has
pub record Counts (world : World) (events : ℕ) (m : Machine) (s : State) : Type 0 where
  pub count : ℕ
  pub machine : Machine
  pub comes : steps (graphs world) count (On m) ≡ On machine
  pub counted : m.events + events ≤ machine.events
  pub shows : Shows world s machine

-- An end is met by that end, the bound by so many events more, an undefined operation by a machine that has shown what the
-- state has, whatever it does from there; and what no accepted program does by anything.
abbrev pub EndMet : World → ℕ → Machine → Ending → State → Type 0
EndMet world bound m (Exit status) s = Stops world (Ended status) m s
EndMet world bound m StackFull s = Stops world run.StackFull m s
EndMet world bound m Bound s = Counts world bound m s
EndMet world bound m (Undefined operation home token) s = Reaches (graphs world) m (Shows world s)
EndMet world bound m Wrong s = Unit {0}

-- An outcome that gives a value is met where the machine comes to one of which this holds.
abbrev pub Meets : {A : Type 0} → World → ℕ → Machine → Outcome A → (A → State → Machine → Type 0) → Type 0
Meets world bound m (Gives a s) After = Reaches (graphs world) m (After a s)
Meets world bound m (Ends ending s) After = EndMet world bound m ending s
