-- What calls promise, and the functions that are called.
use Rattle.std.specs.Prelude.{ℕ, ◌≡◌, suc, Option, Some, None, List, [], ◌∷◌, length, replicate, slice_set}
use Rattle.pw_value.specs.declared.value.Value.{Value}
use Rattle.pw_types.specs.TypeTrees.{CType}
use Rattle.pw_types.specs.Shapes.{letter_of}
use Rattle.pw_flow.specs.declared.flow.Op.{Op}
use Rattle.pw_cmean.specs.Worlds.{World, Callable, function_named}
use Rattle.pw_cmean.specs.Acts.{State, Act, ◌>>=◌, ◌>>◌}
use Rattle.pw_cmean.specs.Typed.{IsValueOf}
use Rattle.pw_cmean.specs.Evaluation.{Env, site, call}
use Rattle.pw_cmean.specs.Execution.{Front, meaning, with_locals}
use Rattle.pw_cmean.specs.SourceRun as source
use Rattle.pw_cmean.specs.SourceRun.{set_parameters, result_of, outermost}
use Rattle.pw_law_source.specs.FromRunLanguages.FlowRun as flow
use Rattle.pw_law_source.specs.FromRunLanguages.FlowRun.{Frame, Machine, step, value_in}
use Rattle.pw_law_refine.specs.Lowerable.{IsLowerableWorld}
use Rattle.pw_law_refine.specs.Standing.{Spot, Stands}
use Rattle.pw_law_refine.specs.Activations.{Activation, IsActivation, Numbers, graphs, graph_of}
use Rattle.pw_law_refine.specs.Matching.{Matches, Lasts, Related, Later}
use Rattle.pw_law_refine.specs.Containing.{IsAt}
use Rattle.pw_law_refine.specs.Meeting.{Meets}
use Rattle.pw_law_refine.specs.Statements.{IsReturning}

-- ---- arguments

-- values of types that have these letters
abbrev pub FitLetters : List ℕ → List Value → Type 0
FitLetters [] [] = Unit {0}
FitLetters (letter ∷ letters) (v ∷ vs) = ((ty : CType) × (letter_of ty ≡ letter) × IsValueOf ty v) × FitLetters letters vs
FitLetters letters vs = ⊥

-- the parameters of a function of a shape
abbrev pub FitShape : List ℕ → List Value → Type 0
FitShape (f ∷ result ∷ letters) vs = FitLetters letters vs
FitShape shape vs = ⊥

abbrev pub EachStands : List Spot → List Value → List Value → Type 0
EachStands spots [] [] = Unit {0}
EachStands spots (v ∷ vs) (w ∷ ws) = Stands spots v w × EachStands spots vs ws
EachStands spots vs ws = ⊥

-- ---- calls

-- the temporaries of a caller with a result, if it takes one
abbrev pub with_result : Option ℕ → Value → List Value → List Value
with_result None w temps = temps
with_result (Some t) w temps = slice_set temps t w

-- what a function returned, which may be nothing
abbrev pub IfReturned : List Spot → Option Value → Value → Type 0
IfReturned spots None w = Unit {0}
IfReturned spots (Some v) w = Stands spots v w

-- The caller goes on with what is left of its block. Of its frame the result alone has changed, and of the objects that
-- stand nowhere none.
pub record HasReturned (world : World) (spots : List Spot) (r : Option ℕ) (rest : List Op) (s : State) (m : Machine) (result : Option Value) (t : State) (n : Machine) : Type 0 where
  pub later : List Spot
  pub matches : Matches world later t n
  pub lasts : Lasts [] spots later s t m n
  pub value : Value
  pub stands : IfReturned later result value
  pub frame : n.frame ≡ record m.frame { ops = rest; temps = with_result r value m.frame.temps }
  pub callers : n.callers ≡ m.callers

-- A machine whose next step is to call a function, by its name or through a value, whose arguments stand for those of
-- the C run.
abbrev pub CallsKeep : ℕ → Type 0
CallsKeep bound =
    (world : World) (spots : List Spot) (name : List ℕ) (f : Callable) (vs ws : List Value) (r : Option ℕ) (rest : List Op) (s : State) (m : Machine) →
    IsLowerableWorld world → function_named world.program name ≡ Some f → FitShape f.shape vs → EachStands spots vs ws →
    Matches world spots s m →
    step (graphs world) m ≡ flow.calls (graphs world) r name ws (record m { frame = record m.frame { ops = rest } }) →
    Meets world bound m (call world (source.calls world bound) f vs s) (HasReturned world spots r rest s m)

-- ---- functions

-- no local is in scope
abbrev pub none_in_scope : Activation → Numbers
none_in_scope x = replicate (length x.function.locals) None

-- what a function does once it is active, with its parameters as objects of its own
abbrev pub runs_body : Activation → ℕ → List Value → Act (Option Value)
runs_body x bound args = with_locals x.function.params 0 (λ (e : Env). do
  set_parameters (site e x.function.token) 0 args e
  meaning x.function.body Front (source.calls x.world bound) e >>= result_of) (outermost x.world x.home x.function)

-- the arguments stand in the first temporaries
abbrev pub FirstStand : List Spot → ℕ → List Value → Machine → Type 0
FirstStand spots t [] m = Unit {0}
FirstStand spots t (v ∷ vs) m = Stands spots v (value_in m.frame t) × FirstStand spots (suc t) vs m

-- The function is about to return its result; its parameters have ended.
pub record HasRun (x : Activation) (spots : List Spot) (s : State) (m : Machine) (result : Option Value) (t : State) (n : Machine) : Type 0 where
  pub later : Later x (none_in_scope x) spots s m t n
  pub returning : IsReturning later.spots result n

-- A machine at the beginning of a function that has just become active.
abbrev pub FunctionsKeep : ℕ → Type 0
FunctionsKeep bound =
    (x : Activation) (spots : List Spot) (args : List Value) (s : State) (m : Machine) →
    IsActivation x → FitShape (graph_of x).shape args → FirstStand spots 0 args m →
    Related x (none_in_scope x) spots s m → IsAt (graph_of x) 0 [] m →
    Meets x.world bound m (runs_body x bound args s) (HasRun x spots s m)
