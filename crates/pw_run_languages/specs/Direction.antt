-- The run of a program under directives, as the run of functions none of whose temporaries has a register; and what
-- its calls and returns have of those of the flow graphs.
use Rattle.std.specs.Prelude.{ℕ, suc, ◌≡◌, if◌then◌else◌, Option, Some, None, List, [], ◌∷◌, map}
use Rattle.std.specs.Str.{bytes_eq}
use Rattle.pw_value.specs.declared.value.Kind.{Kind}
use Rattle.pw_value.specs.declared.value.Value.{Value}
use Rattle.pw_value.specs.declared.value.Byte.{Byte}
use Rattle.pw_value.specs.Objects.{Object, object_at}
use Rattle.pw_db.specs.declared.database.Directives.{Directives}
use Rattle.pw_db.specs.Database.{empty}
use Rattle.pw_flow.specs.declared.flow.FlowGlobal.{FlowGlobal}
use Rattle.pw_flow.specs.declared.flow.FlowFn.{FlowFn}
use Rattle.pw_webflow.specs.declared.web.WebFn.{WebFn}
use Rattle.pw_webflow.specs.Direction.{directed}
use Rattle.pw_alloc.specs.declared.located.Located.{Located}
use Rattle.pw_alloc.specs.Allocation.{saved_of}
use Rattle.pw_run.specs.Runs.{Stage}
use Rattle.pw_run_languages.specs.Traces.{Standing, InMemory, InPlace, Event, Called, Returned}
use Rattle.pw_run_languages.specs.Memory.{scalar_of}
use Rattle.pw_run_languages.specs.Programs.{Program, functions_of, globals_of}
use Rattle.pw_run_languages.specs.FlowRun as flow
use Rattle.pw_run_languages.specs.LawfulPrograms.{eligible_names}
use Rattle.pw_run_languages.specs.PlacedRun.{PlacedProgram, placed_run}

-- ---- programs under directives

-- a function's directives, which are empty where the database lacks it
abbrev pub directives_of : List (List ℕ × Directives) → List ℕ → Directives
directives_of [] f = empty
directives_of (g ∷ rest) f = if bytes_eq g.0 f then g.1 else directives_of rest f

abbrev pub directed_by : List (List ℕ × Directives) → FlowFn → WebFn
directed_by d f = directed f (directives_of d f.name)

-- it saves the registers of the webs that it enters, and no temporary of it has a register
abbrev pub unplaced : WebFn → Located
unplaced f = record { body = f; places = []; saved = saved_of f; frame = 0 }

abbrev pub directed_functions : Program → List (List ℕ × Directives) → List WebFn
directed_functions p d = map (directed_by d) (functions_of p)

abbrev pub with_functions : Program → List Located → PlacedProgram
with_functions p functions = record { flow = p; functions = functions; eligible = eligible_names p }

unfoldable pub web_run : Program → List (List ℕ × Directives) → List ℕ → ℕ → Stage (Event Byte Value)
web_run p d input = placed_run (with_functions p (map unplaced (directed_functions p d))) input

-- ---- the globals at calls and returns

-- a register, or the word in which it was saved, holds what the object would give to a load of its kind
abbrev pub HoldsAs : Option Kind → Value → List Byte → Type 0
HoldsAs (Some k) v bytes = v ≡ scalar_of k bytes
HoldsAs None v bytes = ⊥

abbrev pub StandsFor : FlowGlobal → Object → Standing Byte Value → Type 0
StandsFor g object (InMemory bytes) = bytes ≡ object.bytes
StandsFor g object (InPlace v) = HoldsAs g.kind v object.bytes

-- each global in its place has the value that it has where all are in memory
abbrev pub AllStand : List FlowGlobal → ℕ → List Object → List (Standing Byte Value) → Type 0
AllStand [] n objects [] = Unit {0}
AllStand (g ∷ gs) n objects (s ∷ ss) = StandsFor g (object_at objects n) s × AllStand gs (suc n) objects ss
AllStand gs n objects ss = ⊥

-- a call or return of the flow graphs, and one of a program under directives
abbrev pub MomentAlike : Program → flow.Moment → Event Byte Value → Type 0
MomentAlike p (flow.Called f objects) (Called g globals registers) =
    (g ≡ f) × AllStand (globals_of p) 0 objects globals
MomentAlike p (flow.Returned f objects) (Returned g inner globals before after) =
    (g ≡ f) × (inner ≡ 0) × AllStand (globals_of p) 0 objects globals
MomentAlike p m e = ⊥
