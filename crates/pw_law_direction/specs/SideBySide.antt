-- What is proved of the two runs.
use Rattle.std.specs.Prelude.{ℕ, ◌≡◌, ◌≢◌, Option, Some, None, List, [], ◌∷◌, map, option_map, slice_get, Contains}
use Rattle.std.specs.List.{AllByRecursion}
use Rattle.pw_value.specs.declared.value.Kind.{Kind}
use Rattle.pw_value.specs.declared.value.Value.{Value}
use Rattle.pw_db.specs.declared.database.Web.{Web}
use Rattle.pw_db.specs.declared.database.Role.TheVariants.{Entry}
use Rattle.pw_db.specs.declared.database.Directives.{Directives}
use Rattle.pw_db.specs.Database.{IsDatabase}
use Rattle.pw_flow.specs.declared.flow.Op.{Op}
use Rattle.pw_flow.specs.declared.flow.Op.TheVariants.{LoadG, StoreG, Call, CallInd}
use Rattle.pw_flow.specs.declared.flow.End.{End}
use Rattle.pw_flow.specs.declared.flow.End.TheVariants.{Return}
use Rattle.pw_flow.specs.declared.flow.FlowFn.{FlowFn}
use Rattle.pw_webflow.specs.Direction.{register_of, directed_block}
use Rattle.pw_alloc.specs.Allocation.{saved_of}
use Rattle.pw_db_sound.specs.CallGraphs.{Graph}
use Rattle.pw_db_sound.specs.Sound.{Has, In, Sound}
use Rattle.pw_run.specs.Runs.{Refines}
use Rattle.pw_run_languages.specs.Traces.{calls_of}
use Rattle.pw_run_languages.specs.Programs.{Program, Library, library_at, function_named}
use Rattle.pw_run_languages.specs.FlowRun as flow
use Rattle.pw_run_languages.specs.LawfulPrograms.{IsProgram, graph_of}
use Rattle.pw_run_languages.specs.PlacedRun as web
use Rattle.pw_run_languages.specs.PlacedRun.{held}
use Rattle.pw_run_languages.specs.Direction.{web_run, MomentAlike, directed_by, unplaced}
use Rattle.pw_law_direction.specs.Pairs.{Active, Pair, flow_side, web_side, webs_of, web_frames, under}
use Rattle.pw_law_direction.specs.Alike.{Linked, Saves, names_active, IsAlike, Follows}

-- an operation that neither names a global that it loads or stores nor calls
abbrev pub LeavesGlobals : Op → Type 0
LeavesGlobals (LoadG t g k) = ⊥
LeavesGlobals (StoreG g a k) = ⊥
LeavesGlobals (Call t f args) = ⊥
LeavesGlobals (CallInd t a shape args) = ⊥
LeavesGlobals _ = Unit {0}

-- the directed run does what the flow run does in the next step
abbrev pub StepsFollow : Program → List (List ℕ × Directives) → Pair → Type 0
StepsFollow p d x = Follows p d (flow.step p (flow_side x)) (web.step (under p d) (web_side d x))

abbrev pub OperationsFollow : Type 0
OperationsFollow =
    (p : Program) (d : List (List ℕ × Directives)) (x : Pair) (o : Op) (ops : List Op) →
    IsProgram p → IsAlike p d x → x.frame.ops ≡ o ∷ ops → LeavesGlobals o → StepsFollow p d x

-- a block that ends without a return
abbrev pub StaysInside : End → Type 0
StaysInside (Return t) = ⊥
StaysInside _ = Unit {0}

abbrev pub BlocksFollow : Type 0
BlocksFollow =
    (p : Program) (d : List (List ℕ × Directives)) (x : Pair) →
    IsAlike p d x → x.frame.ops ≡ [] → StaysInside x.frame.end → StepsFollow p d x

-- A write of a web's register, by a function that is in the web, leaves the places of all other globals.
abbrev pub PlacesStay : Type 0
PlacesStay =
    (g : Graph) (d : List (List ℕ × Directives)) (w : Web) (h : List ℕ) (v : Value) (f : Active) (fs : List Active) (registers : ℕ → Value) →
    Sound g d → Linked g (f ∷ fs) → AllByRecursion (Saves d) (f ∷ fs) → In d w f.function.name → w.global ≢ h →
    held h (web.with_register w.reg v registers) (web_frames d (f ∷ fs)) ≡ held h registers (web_frames d (f ∷ fs))

-- a load of a global that a web of the function holds
abbrev pub ReadsFollow : Type 0
ReadsFollow =
    (p : Program) (d : List (List ℕ × Directives)) (x : Pair) (t : ℕ) (g : List ℕ) (k : Kind) (ops : List Op) (r : ℕ) →
    IsProgram p → Sound (graph_of p) d → IsAlike p d x → x.frame.ops ≡ LoadG t g k ∷ ops → register_of (webs_of d x.frame.function) g ≡ Some r →
    StepsFollow p d x

-- a store to one
abbrev pub WritesFollow : Type 0
WritesFollow =
    (p : Program) (d : List (List ℕ × Directives)) (x : Pair) (t : ℕ) (g : List ℕ) (k : Kind) (ops : List Op) (r : ℕ) →
    IsProgram p → Sound (graph_of p) d → IsAlike p d x → x.frame.ops ≡ StoreG g t k ∷ ops → register_of (webs_of d x.frame.function) g ≡ Some r →
    StepsFollow p d x

-- ---- where globals stand at calls and returns

-- Directly after a function has saved: each word that it saved is what the register held, and it changed no register but those.
pub record AfterSaving (f : Active) (after now : ℕ → Value) : Type 0 where
  pub saved : (s : ℕ × Value) → Contains f.saved s → s.1 ≡ now s.0
  pub others : (r : ℕ) → ¬ Contains (map (λ s. s.0) f.saved) r → after r ≡ now r

-- a global of no web that a callee enters stands where it stood at the call
abbrev pub StandsAtCalls : Type 0
StandsAtCalls =
    (g : Graph) (d : List (List ℕ × Directives)) (h : List ℕ) (f caller : Active) (fs : List Active) (after now : ℕ → Value) →
    IsDatabase d → Sound g d → Linked g (f ∷ caller ∷ fs) → Saves d f → AfterSaving f after now →
    ((w : Web) → w.global ≡ h → ¬ Has d f.function.name w Entry) →
    held h after (web_frames d (f ∷ caller ∷ fs)) ≡ held h now (web_frames d (caller ∷ fs))

-- a function that enters a web of a global is called where no active function is in a web of it
abbrev pub EntriesAreAlone : Type 0
EntriesAreAlone =
    (g : Graph) (d : List (List ℕ × Directives)) (w u : Web) (f : Active) (fs : List Active) (n : List ℕ) →
    IsDatabase d → Sound g d → Linked g (f ∷ fs) → Has d f.function.name w Entry → Contains (names_active fs) n → In d u n → u.global ≢ w.global

-- what a function saved is restored at its return, and a global of no web that it entered stands where it stood
abbrev pub StandsAtReturns : Type 0
StandsAtReturns =
    (g : Graph) (d : List (List ℕ × Directives)) (h : List ℕ) (f caller : Active) (fs : List Active) (registers : ℕ → Value) →
    IsDatabase d → Sound g d → Linked g (f ∷ caller ∷ fs) → Saves d f →
    ((w : Web) → w.global ≡ h → ¬ Has d f.function.name w Entry) →
    held h (web.with_registers f.saved registers) (web_frames d (caller ∷ fs)) ≡ held h registers (web_frames d (f ∷ caller ∷ fs))

-- ---- globals that no web of the function holds

abbrev pub LoadsFollow : Type 0
LoadsFollow =
    (p : Program) (d : List (List ℕ × Directives)) (x : Pair) (t : ℕ) (g : List ℕ) (k : Kind) (ops : List Op) →
    IsDatabase d → Sound (graph_of p) d → IsAlike p d x → x.frame.ops ≡ LoadG t g k ∷ ops → register_of (webs_of d x.frame.function) g ≡ None →
    StepsFollow p d x

abbrev pub StoresFollow : Type 0
StoresFollow =
    (p : Program) (d : List (List ℕ × Directives)) (x : Pair) (t : ℕ) (g : List ℕ) (k : Kind) (ops : List Op) →
    IsProgram p → IsDatabase d → Sound (graph_of p) d → IsAlike p d x → x.frame.ops ≡ StoreG g t k ∷ ops → register_of (webs_of d x.frame.function) g ≡ None →
    StepsFollow p d x

-- ---- calls

-- a call of a function of the library
abbrev pub LibraryFollows : Type 0
LibraryFollows =
    (p : Program) (d : List (List ℕ × Directives)) (x : Pair) (t : Option ℕ) (f : List ℕ) (args : List Value) (lib : Library) →
    IsDatabase d → IsAlike p d x → library_at f ≡ Some lib →
    Follows p d (flow.calls p t f args (flow_side x)) (web.calls (under p d) t f args (web_side d x))

-- a call, by its name or through a value
abbrev pub IsCall : Op → Type 0
IsCall (Call t f args) = Unit {0}
IsCall (CallInd t a shape args) = Unit {0}
IsCall _ = ⊥

-- whatever it calls
abbrev pub CallsFollow : Type 0
CallsFollow =
    (p : Program) (d : List (List ℕ × Directives)) (x : Pair) (o : Op) (ops : List Op) →
    IsProgram p → IsDatabase d → Sound (graph_of p) d → IsAlike p d x → x.frame.ops ≡ o ∷ ops → IsCall o → StepsFollow p d x

-- ---- returns

abbrev pub ReturnsFollow : Type 0
ReturnsFollow =
    (p : Program) (d : List (List ℕ × Directives)) (x : Pair) (t : Option ℕ) →
    IsProgram p → IsDatabase d → Sound (graph_of p) d → IsAlike p d x → x.frame.ops ≡ [] → x.frame.end ≡ Return t → StepsFollow p d x

-- ---- all steps, and runs

-- what is left of a block is neither a call nor ends with a return
abbrev pub StaysInFunction : List Op → End → Type 0
StaysInFunction [] end = StaysInside end
StaysInFunction (Call t f args ∷ ops) end = ⊥
StaysInFunction (CallInd t a shape args ∷ ops) end = ⊥
StaysInFunction (o ∷ ops) end = Unit {0}

-- all that a function does by itself
abbrev pub InsideFollows : Type 0
InsideFollows =
    (p : Program) (d : List (List ℕ × Directives)) (x : Pair) →
    IsProgram p → IsDatabase d → Sound (graph_of p) d → IsAlike p d x → StaysInFunction x.frame.ops x.frame.end → StepsFollow p d x

-- the starts are alike
abbrev pub StartsFollow : Type 0
StartsFollow =
    (p : Program) (d : List (List ℕ × Directives)) (input : List ℕ) → IsProgram p → IsDatabase d → Sound (graph_of p) d →
    Follows p d (flow.start p input) (web.start (under p d) input)

-- where the starts are alike and every step follows, the directed run does what the flow run does
abbrev pub RunsRestOnSteps : Type 0
RunsRestOnSteps =
    (p : Program) (d : List (List ℕ × Directives)) (input : List ℕ) →
    Follows p d (flow.start p input) (web.start (under p d) input) → ((x : Pair) → IsAlike p d x → StepsFollow p d x) →
    Refines (MomentAlike p) (flow.flow_run p input) (calls_of (web_run p d input))

-- ---- the start of a function

-- What a function saves at its start, with what the registers hold, is what the states want to be saved.
abbrev pub SavesAtStarts : Type 0
SavesAtStarts =
    (d : List (List ℕ × Directives)) (f : Active) (registers : ℕ → Value) →
    IsDatabase d → f.saved ≡ map (λ r. (r, registers r)) (saved_of (directed_by d f.function)) →
    Saves d f × ((s : ℕ × Value) → Contains f.saved s → s.1 ≡ registers s.0)

-- a name is that of the same function in both runs, and its blocks are the same but for direction
pub record HasSameFunctions (p : Program) (d : List (List ℕ × Directives)) : Type 0 where
  pub function : (name : List ℕ) → web.function_named (under p d) name ≡ option_map (λ f. unplaced (directed_by d f)) (function_named p name)
  pub block : (f : FlowFn) (b : ℕ) → slice_get (directed_by d f).blocks b ≡ option_map (directed_block (webs_of d f)) (slice_get f.blocks b)

abbrev pub SameFunctions : Type 0
SameFunctions = (p : Program) (d : List (List ℕ × Directives)) → HasSameFunctions p d
