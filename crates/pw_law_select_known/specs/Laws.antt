-- What holds of the placed run by itself.
use Rattle.std.specs.Prelude.{ℕ, ◌≡◌, ◌⊎◌, ◌<◌, ◌≤◌, false, Option, Some, List, [], ◌∷◌, ◌++◌, map, length, slice_get, Contains}
use Rattle.pw_value.specs.declared.value.Byte.{Byte}
use Rattle.pw_value.specs.declared.value.Value.{Value}
use Rattle.pw_value.specs.Objects.{object_at}
use Rattle.pw_db.specs.declared.database.Web.{Web}
use Rattle.pw_db.specs.declared.database.Directives.{Directives}
use Rattle.std.specs.List.{AllByRecursion}
use Rattle.pw_flow.specs.declared.flow.End.{End}
use Rattle.pw_webflow.specs.declared.web.WebOp.{WebOp}
use Rattle.pw_webflow.specs.declared.web.WebBlock.{WebBlock}
use Rattle.pw_webflow.specs.ValidWebs.{IsWebFn}
use Rattle.pw_webflow.specs.WebOutline.{calls}
use Rattle.pw_alloc.specs.declared.located.Located.{Located}
use Rattle.pw_run.specs.Runs as run
use Rattle.pw_run_languages.specs.Traces.{Event, Loaded, Stored}
use Rattle.pw_run_languages.specs.Programs.{Program, globals_of, start_objects}
use Rattle.pw_run_languages.specs.LawfulPrograms.{IsProgram}
use Rattle.pw_run_languages.specs.Direction.{directed_functions, with_functions}
use Rattle.pw_run_languages.specs.Serving.{AllServe}
use Rattle.pw_run_languages.specs.Traffic.{active}
use Rattle.pw_run_languages.specs.PlacedRun.{Frame, Machine, On, Stopped, name_of, does, enters, leaves, entered, ends, steps, start}
use Rattle.pw_law_select_states.specs.Pointers.{BytesAreKnown, AreKnown, FrameIsKnown}

-- the pointers of each state of a run lead somewhere
abbrev pub PointersAreKnown : Type 0
PointersAreKnown =
    (p : Program) (d : List (List ℕ × Directives)) (functions : List Located) (input : List ℕ) → IsProgram p → AllServe (directed_functions p d) functions →
    (n : ℕ) (m : Machine) → steps (with_functions p functions) n (start (with_functions p functions) input) ≡ On m → AreKnown p m

-- the objects of slots have numbers behind those of global objects
abbrev pub SlotsAreBehindGlobals : Type 0
SlotsAreBehindGlobals =
    (p : Program) (d : List (List ℕ × Directives)) (functions : List Located) (input : List ℕ) → IsProgram p → AllServe (directed_functions p d) functions →
    (n : ℕ) (m : Machine) → steps (with_functions p functions) n (start (with_functions p functions) input) ≡ On m → length (globals_of p) ≤ m.frame.base

-- the calls that are active after what a run noted are those of its active functions
abbrev pub ActiveCallsAreNoted : Type 0
ActiveCallsAreNoted =
    (p : Program) (functions : List Located) (input : List ℕ) (n : ℕ) (m : Machine) → steps (with_functions p functions) n (start (with_functions p functions) input) ≡ On m
    → map (λ c. c.function) (active m.trace) ≡ map name_of (m.frame ∷ m.callers)

-- a function of the program, with these operations left of one of its blocks
pub record StandsIn (functions : List Located) (l : Located) (b : ℕ) (left : List WebOp) (last : End) : Type 0 where
  pub there : Contains functions l
  pub block : WebBlock
  pub at : slice_get l.body.blocks b ≡ Some block
  pub before : List WebOp
  pub ops : block.ops ≡ before ++ left
  pub end : block.end ≡ last

abbrev pub IsOfProgram : List Located → Frame → Type 0
IsOfProgram functions f = StandsIn functions f.function f.block f.ops f.end

-- the result of a function that is active goes to a temporary of the one that called it
abbrev pub ResultsFit : Option ℕ → List Frame → Type 0
ResultsFit result [] = Unit {0}
ResultsFit result (f ∷ fs) = ((t : ℕ) → result ≡ Some t → t < f.function.body.temps) × ResultsFit f.result fs

-- so do all functions that are active
abbrev pub FunctionsStandInBlocks : Type 0
FunctionsStandInBlocks =
    (p : Program) (functions : List Located) (input : List ℕ) (n : ℕ) (m : Machine) → ((l : Located) → Contains functions l → IsWebFn l.body)
    → steps (with_functions p functions) n (start (with_functions p functions) input) ≡ On m
    → IsOfProgram functions m.frame × (AllByRecursion (IsOfProgram functions) m.callers × ResultsFit m.frame.result m.callers)

-- a load or a store of a global that a register may hold
abbrev pub IsAccess : {B V : Type 0} → Event B V → Type 0
IsAccess (Loaded v) = Unit {0}
IsAccess (Stored v) = Unit {0}
IsAccess _ = ⊥

-- the same objects live, and are as long; there are as many temporaries; loads and stores alone are noted
pub record KeepsShape (m n : Machine) : Type 0 where
  pub count : length n.objects ≡ length m.objects
  pub lives : (o : ℕ) → (object_at n.objects o).live ≡ (object_at m.objects o).live
  pub sizes : (o : ℕ) → length (object_at n.objects o).bytes ≡ length (object_at m.objects o).bytes
  pub temps : length n.frame.temps ≡ length m.frame.temps
  pub log : List (Event Byte Value)
  pub quiet : AllByRecursion (λ e. IsAccess e) log
  pub noted : n.trace ≡ log ++ m.trace

-- so it is behind an operation that calls nothing
abbrev pub OperationsKeepShape : Type 0
OperationsKeepShape =
    (p : Program) (functions : List Located) (o : WebOp) (m n : Machine) → calls o ≡ false → does (with_functions p functions) o m ≡ On n → KeepsShape m n

-- and where a web is loaded or stored back
abbrev pub WebsKeepShape : Type 0
WebsKeepShape =
    (p : Program) (functions : List Located) (x : Web) (m n : Machine)
    → (enters (with_functions p functions) x m ≡ On n) ⊎ (leaves (with_functions p functions) x m ≡ On n) → KeepsShape m n

-- ---- what stops a run

abbrev pub OperationsNeverStop : Type 0
OperationsNeverStop =
    (p : Program) (functions : List Located) (o : WebOp) (m n : Machine) (end : run.End) → calls o ≡ false → ¬ (does (with_functions p functions) o m ≡ Stopped end n)

abbrev pub WebsNeverStop : Type 0
WebsNeverStop =
    (p : Program) (functions : List Located) (x : Web) (m n : Machine) (end : run.End)
    → ¬ ((enters (with_functions p functions) x m ≡ Stopped end n) ⊎ (leaves (with_functions p functions) x m ≡ Stopped end n))

abbrev pub EndsNeverStop : Type 0
EndsNeverStop = (p : Program) (functions : List Located) (last : End) (m n : Machine) (end : run.End) → ¬ (ends (with_functions p functions) last m ≡ Stopped end n)

-- ---- frames

-- where a function is entered, its frame and those of all that wait are known
abbrev pub EnteredFramesAreKnown : Type 0
EnteredFramesAreKnown =
    (p : Program) (f : Located) (b : WebBlock) (t : Option ℕ) (m : Machine) → AreKnown p m
    → FrameIsKnown p (length (entered f b t m).objects) (entered f b t m).frame × AllByRecursion (FrameIsKnown p (length (entered f b t m).objects)) (m.frame ∷ m.callers)

-- pointers in the objects with which a run starts lead somewhere
abbrev pub StartBytesAreKnown : Type 0
StartBytesAreKnown = (p : Program) → IsProgram p → BytesAreKnown p (start_objects p)
