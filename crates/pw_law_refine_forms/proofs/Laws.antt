-- The laws of other crates that the forms rest on.
use Rattle.std.proofs.Common.{◌≡◌, ◌≢◌, ℕ, ◌+◌, ◌≤◌, Contains}
use Rattle.pw_types.specs.TypeTrees.{Void}
use Rattle.pw_types.specs.TypedTrees.{Expression}
use Rattle.pw_types.specs.WellTyped.{IsTyped, type_in}
use Rattle.pw_flow.specs.declared.flow.FlowFn.{FlowFn}
use Rattle.pw_lower.specs.declared.code.Code.{Code}
use Rattle.pw_lower.specs.Places.{addressed_in}
use Rattle.pw_lower.specs.Expressions.{Home, lower}
use Rattle.pw_law_lower.specs.Kept.{Keeps}
use Rattle.pw_cmean.specs.Acts.{State}
use Rattle.pw_cmean.specs.Evaluation.{Env, answer_of, place_of}
use Rattle.pw_cmean.specs.SourceRun.{calls}
use Rattle.pw_cmean.specs.Typed.{IsPointer, IsResultOf, IsWellTyped, HoldsBytes, IfGives}
use Rattle.pw_run_languages.specs.Programs.{Program}
use Rattle.pw_run_languages.specs.FlowRun.{Machine, Step, On, steps}
use Rattle.pw_law_refine.specs.Activations.{Activation, HaveSlots, home_of}
use Rattle.pw_law_refine.specs.Containing.{ContainsCode}
use Rattle.pw_law_refine_steps.specs.Results.{HasNewResult}
use Rattle.pw_law_refine_steps.specs.Stretches.{AreNext, StepsObey, PutsStayRelated, FreshOperationsReach, LastsTwice, StandsLater, LocalsComeFirst, AssignsToLocals}
use Rattle.pw_law_refine_forms.proofs.Bytes.{BackLaws}

-- what the meaning of C says of the types of results, and of places
abbrev pub TypesHold : ℕ → Type 0
TypesHold bound =
    (a : Expression) (e : Env) (s : State) → IsWellTyped e.world.program → Contains e.world.program.modules e.home →
    IsTyped e.home.tree e.locals a → HoldsBytes s → IfGives (IsResultOf (type_in a)) (answer_of a (calls e.world bound) e s)

abbrev pub PlacesHold : ℕ → Type 0
PlacesHold bound =
    (a : Expression) (e : Env) (s : State) → IsWellTyped e.world.program → Contains e.world.program.modules e.home →
    IsTyped e.home.tree e.locals a → HoldsBytes s → IfGives IsPointer (place_of a (calls e.world bound) e s)

pub record Laws : Type 0 where
  -- of steps
  pub more : (p : Program) (a b : ℕ) (s : Step) → steps p (a + b) s ≡ steps p b (steps p a s)
  pub rise : (p : Program) (k : ℕ) (m n : Machine) → steps p k (On m) ≡ On n → m.events ≤ n.events
  pub next : AreNext
  pub obey : StepsObey
  pub put : PutsStayRelated
  pub fresh : FreshOperationsReach
  -- of stretches
  pub lasts : LastsTwice
  pub stands : StandsLater
  -- of code
  pub later : (h : Home) (a : Expression) (c : Code) → Keeps c (lower h a c).code
  pub contain : (g : FlowFn) (h : Home) (a : Expression) (c : Code) → ContainsCode g (lower h a c).code → ContainsCode g c
  pub results : (x : Activation) (a : Expression) (c : Code) → IsTyped x.home.tree x.function.locals a →
      HaveSlots x (addressed_in a) → type_in a ≢ Void → HasNewResult c (lower (home_of x) a c)
  pub below : LocalsComeFirst
  pub assigned : AssignsToLocals
  -- of values
  pub back : BackLaws
  pub types : (bound : ℕ) → TypesHold bound
  pub places : (bound : ℕ) → PlacesHold bound
