-- The laws of other crates that statements rest on.
use Rattle.std.proofs.Common.{◌≡◌, ◌≢◌, ℕ, ◌+◌, ◌≤◌, Bool, List, Contains}
use Rattle.pw_types.specs.Labels.{labels_in, cases_in}
use Rattle.pw_types.specs.TypeTrees.{Void}
use Rattle.pw_types.specs.TypedModules.{IsStatement, IsFunction}
use Rattle.pw_types.specs.TypedTrees.{Expression, Statement, FunctionValue, ModuleValue}
use Rattle.pw_types.specs.WellTyped.{IsTyped, type_in}
use Rattle.pw_flow.specs.declared.flow.FlowFn.{FlowFn}
use Rattle.pw_lower.specs.declared.code.Code.{Code}
use Rattle.pw_lower.specs.declared.place.Ways.{Ways}
use Rattle.pw_lower.specs.Places.{addressed_in}
use Rattle.pw_lower.specs.Expressions.{Home, lower}
use Rattle.pw_lower.specs.Statements.{Frame, lower_statement}
use Rattle.pw_lower.specs.Modules.{lowered_function}
use Rattle.pw_law_lower.specs.Kept.{Keeps}
use Rattle.pw_law_lower.specs.Ranges.{IsFunctionInRange}
use Rattle.pw_cmean.specs.Acts.{State}
use Rattle.pw_cmean.specs.Evaluation.{Env, answer_of}
use Rattle.pw_cmean.specs.SourceRun.{calls}
use Rattle.pw_cmean.specs.Typed.{IsResultOf, IsWellTyped, HoldsBytes, IfGives}
use Rattle.pw_run_languages.specs.Programs.{Program}
use Rattle.pw_run_languages.specs.FlowRun.{Machine, Step, On, steps}
use Rattle.pw_law_refine.specs.Activations.{Activation, HaveSlots, home_of}
use Rattle.pw_law_refine.specs.Containing.{ContainsCode}
use Rattle.pw_law_refine_steps.specs.Results.{HasNewResult}
use Rattle.pw_law_refine_steps.specs.Stretches.{FreshOperationsReach, LastsTwice}
use Rattle.pw_law_refine_code.specs.Ending.{Ends, KeepLabels}
use Rattle.pw_law_refine_code.specs.Opening.{Fits}
use Rattle.pw_law_refine_code.specs.Setting.{ListsAreSet, LabelledAreSet, BlocksAreSet, IfsAreSet, ArmsAreSet, LoopsAreSet, SwitchesAreSet}

-- what the meaning of C says of the types of results
abbrev pub TypesHold : ℕ → Type 0
TypesHold bound =
    (a : Expression) (e : Env) (s : State) → IsWellTyped e.world.program → Contains e.world.program.modules e.home →
    IsTyped e.home.tree e.locals a → HoldsBytes s → IfGives (IsResultOf (type_in a)) (answer_of a (calls e.world bound) e s)

pub record Laws : Type 0 where
  -- of steps
  pub more : (p : Program) (a b : ℕ) (s : Step) → steps p (a + b) s ≡ steps p b (steps p a s)
  pub rise : (p : Program) (k : ℕ) (m n : Machine) → steps p k (On m) ≡ On n → m.events ≤ n.events
  pub fresh : FreshOperationsReach
  -- of stretches
  pub lasts : LastsTwice
  -- of code
  pub later : (h : Home) (a : Expression) (c : Code) → Keeps c (lower h a c).code
  pub grows : (f : Frame) (ways : Ways) (a : Statement) (c : Code) → Keeps c (lower_statement f ways a c)
  pub contain : (g : FlowFn) (h : Home) (a : Expression) (c : Code) → ContainsCode g (lower h a c).code → ContainsCode g c
  pub contains : (g : FlowFn) (f : Frame) (ways : Ways) (a : Statement) (c : Code) → ContainsCode g (lower_statement f ways a c) → ContainsCode g c
  pub alike : (h : Home) (a : Expression) (c : Code) → (lower h a c).code.labels ≡ c.labels
  pub results : (x : Activation) (a : Expression) (c : Code) → IsTyped x.home.tree x.function.locals a →
      HaveSlots x (addressed_in a) → type_in a ≢ Void → HasNewResult c (lower (home_of x) a c)
  pub ends : (m : ModuleValue) (f : FunctionValue) (breaks continues : Bool) (from : ℕ) (frame : Frame) (ways : Ways) (s : Statement) (c : Code) →
      IsStatement m f breaks continues from s → Fits c (labels_in s) (cases_in s) →
      Ends c (lower_statement frame ways s c) (labels_in s) (cases_in s)
  pub labels : (m : ModuleValue) (f : FunctionValue) (breaks continues : Bool) (from : ℕ) (frame : Frame) (ways : Ways) (s : Statement) (c : Code) →
      IsStatement m f breaks continues from s → Fits c (labels_in s) (cases_in s) →
      KeepLabels c (lower_statement frame ways s c) (cases_in s)
  pub ranges : (home : List ℕ) (m : ModuleValue) (f : FunctionValue) → IsFunction m f → IsFunctionInRange (lowered_function home m.records f)
  -- of parts
  pub lists : ListsAreSet
  pub labelled : LabelledAreSet
  pub blocks : BlocksAreSet
  pub ifs : IfsAreSet
  pub arms : ArmsAreSet
  pub loops : LoopsAreSet
  pub switches : SwitchesAreSet
  -- of values
  pub types : (bound : ℕ) → TypesHold bound
