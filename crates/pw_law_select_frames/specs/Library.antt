-- Calls of the library: both runs read, write and end alike, and the answer stands in its register.
use Rattle.std.specs.Prelude.{ℕ, ◌≡◌, ◌≢◌, ◌≤◌, Option, Some, List, ◌∷◌, slice_get}
use Rattle.pw_value.specs.declared.value.Value.{Value}
use Rattle.pw_inst.specs.Registers.{answer, stack_pointer}
use Rattle.pw_alloc.specs.declared.located.Located.{Located}
use Rattle.pw_run.specs.Runs.{End, AreAlike}
use Rattle.pw_run_languages.specs.Programs.{Program, Library}
use Rattle.pw_run_languages.specs.Addresses.{Addresses}
use Rattle.pw_run_languages.specs.Acts.{register}
use Rattle.pw_run_languages.specs.Standing.{ValueStands, EventInWords}
use Rattle.pw_run_languages.specs.LineRun as run
use Rattle.pw_run_languages.specs.LineRun.{library}
use Rattle.pw_run_languages.specs.PlacedRun as placed
use Rattle.pw_run_languages.specs.PlacedRun.{takes_result, calls_library}
use Rattle.pw_run_languages.specs.Direction.{with_functions}
use Rattle.pw_run_languages.specs.SelectionLaws.{line_program}
use Rattle.pw_law_select_states.specs.Laid.{address}
use Rattle.pw_law_select_states.specs.States.{Stands}
use Rattle.pw_law_select_frames.specs.Arguments.{argument_word}
use Rattle.pw_law_select_frames.specs.Chain.{AllActive}

-- what both runs have shown
pub record ShowAlike (p : Program) (w : Addresses) (m : placed.Machine) (l : run.Machine) : Type 0 where
  pub rest : l.rest ≡ m.rest
  pub read : l.read ≡ m.read
  pub out : l.out ≡ m.out
  pub events : m.events ≤ l.events
  pub log : AreAlike (EventInWords p w.named) m.trace l.trace

-- both runs are at a call, with the arguments' words where a callee finds them
pub record MayCall (p : Program) (w : Addresses) (site : ℕ → ℕ) (args : List Value) (m : placed.Machine) (l : run.Machine) : Type 0 where
  pub stands : Stands p w site m l.core
  pub active : AllActive (address p w site) l.core.memory (m.frame ∷ m.callers) (l.frame ∷ l.callers)
  pub arguments : (k : ℕ) (v : Value) → slice_get args k ≡ Some v → ValueStands (address p w site) v (argument_word l.core (register l.core stack_pointer) k)
  pub show : ShowAlike p w m l

-- what they do then: they go on with an answer that stands in its register, or end alike; where the placed run goes astray, nothing
-- is said
pub record Answers (p : Program) (w : Addresses) (site : ℕ → ℕ) (m : placed.Machine) (l : run.Machine) (v : Value) (n : placed.Machine) (o : run.Machine) : Type 0 where
  pub stands : Stands p w site n o.core
  pub value : ValueStands (address p w site) v (register o.core answer)
  pub frames : (n.frame ≡ m.frame) × (n.callers ≡ m.callers) × (n.objects ≡ m.objects)
  pub lines : (o.frame ≡ l.frame) × (o.callers ≡ l.callers) × (o.core.memory ≡ l.core.memory)
  pub registers : (r : ℕ) → r ≢ answer → register o.core r ≡ register l.core r
  pub show : ShowAlike p w n o

pub data Does (p : Program) (w : Addresses) (site : ℕ → ℕ) (t : Option ℕ) (m : placed.Machine) (l : run.Machine) : placed.Step → run.Step → Type 0 where
  answers : (v : Value) (n : placed.Machine) (o : run.Machine) → Answers p w site m l v n o → Does p w site t m l (placed.On (takes_result t v n)) (run.On o)
  ends : (end : End) (n : placed.Machine) (o : run.Machine) → ShowAlike p w n o → Does p w site t m l (placed.Stopped end n) (run.Stopped end o)
  strays : (s : run.Step) → Does p w site t m l placed.Astray s

abbrev pub LibraryDoesAlike : Type 0
LibraryDoesAlike =
    (p : Program) (w : Addresses) (functions : List Located) (site : ℕ → ℕ) (g : Library) (t : Option ℕ) (args : List Value) (m : placed.Machine) (l : run.Machine)
    → MayCall p w site args m l → Does p w site t m l (calls_library (with_functions p functions) g t args m) (library (line_program p functions) w g l)
