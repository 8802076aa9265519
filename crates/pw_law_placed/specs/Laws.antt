-- What is proved of the directed run and the placed run.
use Rattle.std.specs.Prelude.{ℕ, ◌≡◌, ◌≤◌, Option, Some, None, List, [], ◌∷◌, map, Contains}
use Rattle.pw_value.specs.declared.value.Value.{Value}
use Rattle.pw_value.specs.Objects.{Object}
use Rattle.pw_db.specs.Limits.{last_register}
use Rattle.pw_db.specs.declared.database.Directives.{Directives}
use Rattle.pw_db.specs.Database.{IsDatabase}
use Rattle.pw_flow.specs.declared.flow.End.{End}
use Rattle.pw_flow.specs.declared.flow.End.TheVariants.{Return}
use Rattle.pw_webflow.specs.declared.web.WebFn.{WebFn}
use Rattle.pw_alloc.specs.declared.located.Located.{Located}
use Rattle.pw_db_sound.specs.CallGraphs.{Calls}
use Rattle.pw_db_sound.specs.Sound.{Sound, IsFree}
use Rattle.pw_run_languages.specs.Programs.{Program, Library, library_at}
use Rattle.pw_run_languages.specs.LawfulPrograms.{IsProgram, graph_of}
use Rattle.pw_run_languages.specs.Commands as command
use Rattle.pw_run_languages.specs.PlacedRun.{PlacedProgram, globals_now, On, takes_result, obeys, ends, returns, start, step, function_named}
use Rattle.pw_run_languages.specs.PlacedRun.{calls as place_calls}
use Rattle.pw_run_languages.specs.Direction.{directed_functions, with_functions, unplaced}
use Rattle.pw_run_languages.specs.Serving.{AllServe, Serves}
use Rattle.pw_law_operations.specs.Laws.{StaysInside, HasResult}
use Rattle.pw_law_direction.specs.Values.{AreFine}
use Rattle.pw_law_placed.specs.Twins.{Active, Twin, bare_frame, placed_frame, bare_side, placed_side, bare_program}
use Rattle.pw_law_placed.specs.Alike.{Registers, WebsAgree, AllWait, IsReady, IsCalling, IsAlike, Follows, given_back, name_of}

-- ---- registers

-- where the webs of all active functions have the same in their registers, the globals stand where they stand
abbrev pub AllWebsAgree : List Active → Registers → Registers → Type 0
AllWebsAgree [] registers bank = Unit {0}
AllWebsAgree (f ∷ fs) registers bank =
    WebsAgree f registers bank × AllWebsAgree fs (given_back f.bare registers) (given_back f.placed bank)

abbrev pub GlobalsStandAlike : Type 0
GlobalsStandAlike =
    (p q : PlacedProgram) (fs : List Active) (registers bank : Registers) (objects : List Object) → q.flow ≡ p.flow → AllWebsAgree fs registers bank →
    globals_now q bank (map placed_frame fs) objects ≡ globals_now p registers (map bare_frame fs) objects

-- what functions that wait find in the placed run depends on the registers alone that a callee keeps, but for those that the
-- one that they wait for is free to use
abbrev pub WaitingRestsOnKept : Type 0
WaitingRestsOnKept =
    (p : Program) (d : List (List ℕ × Directives)) (callee : List ℕ) (result : Option ℕ) (fs : List Active) (registers bank now after : Registers) →
    ((r : ℕ) → r ≤ last_register → now r ≡ registers r) → ((r : ℕ) → r ≤ last_register → ¬ IsFree d callee r → after r ≡ bank r) →
    AllWait p d callee result fs registers bank → AllWait p d callee result fs now after

-- ---- temporaries

-- a result goes to its place, which is that of no temporary that is still needed
abbrev pub ResultsFollow : Type 0
ResultsFollow =
    (p : Program) (d : List (List ℕ × Directives)) (x : Twin) (result : Option ℕ) (v : Value) → IsReady p d x result →
    Follows p d (On (takes_result result v (bare_side x))) (On (takes_result result v (placed_side x)))

-- ---- what a function does by itself

-- both runs of a program: without places, and with those that serve
abbrev pub IsServed : Program → List (List ℕ × Directives) → List Located → Type 0
IsServed p d ls = AllServe (directed_functions p d) ls

abbrev pub CommandsFollow : Type 0
CommandsFollow =
    (p : Program) (d : List (List ℕ × Directives)) (ls : List Located) (x : Twin) (result : Option ℕ) (c : command.Command) →
    IsReady p d x result → StaysInside c → HasResult result c →
    Follows p d (obeys (bare_program p d) c (bare_side x)) (obeys (with_functions p ls) c (placed_side x))

-- the end of a block that does not return
abbrev pub StaysInFunction : End → Type 0
StaysInFunction (Return t) = ⊥
StaysInFunction end = Unit {0}

abbrev pub BlocksFollow : Type 0
BlocksFollow =
    (p : Program) (d : List (List ℕ × Directives)) (ls : List Located) (x : Twin) → IsAlike p d x → x.frame.ops ≡ [] → StaysInFunction x.frame.end →
    Follows p d (ends (bare_program p d) x.frame.end (bare_side x)) (ends (with_functions p ls) x.frame.end (placed_side x))

-- ---- calls of the library

abbrev pub LibraryFollows : Type 0
LibraryFollows =
    (p : Program) (d : List (List ℕ × Directives)) (ls : List Located) (x : Twin) (result : Option ℕ) (f : List ℕ) (args : List Value) (lib : Library) →
    IsCalling p d x result → library_at f ≡ Some lib →
    Follows p d (place_calls (bare_program p d) result f args (bare_side x)) (place_calls (with_functions p ls) result f args (placed_side x))

-- ---- functions of both runs

-- a name is that of no function in either run, or of one whose places serve it
pub data BothNamed (fs : List WebFn) (name : List ℕ) : Option Located → Option Located → Type 0 where
  neither : BothNamed fs name None None
  both : (l : Located) → Contains fs l.body → Serves l.body l → l.body.name ≡ name → BothNamed fs name (Some (unplaced l.body)) (Some l)

abbrev pub SameFunctions : Type 0
SameFunctions =
    (p : Program) (d : List (List ℕ × Directives)) (ls : List Located) (name : List ℕ) → IsServed p d ls →
    BothNamed (directed_functions p d) name (function_named (bare_program p d) name) (function_named (with_functions p ls) name)

-- ---- calls, returns, starts

-- a call that is one of the graph, of whatever function
abbrev pub CallsFollow : Type 0
CallsFollow =
    (p : Program) (d : List (List ℕ × Directives)) (ls : List Located) (x : Twin) (result : Option ℕ) (f : List ℕ) (args : List Value) →
    IsProgram p → IsDatabase d → Sound (graph_of p) d → IsServed p d ls → IsCalling p d x result → Calls (graph_of p) (name_of x.frame) f →
    Follows p d (place_calls (bare_program p d) result f args (bare_side x)) (place_calls (with_functions p ls) result f args (placed_side x))

abbrev pub ReturnsFollow : Type 0
ReturnsFollow =
    (p : Program) (d : List (List ℕ × Directives)) (ls : List Located) (x : Twin) (t : Option ℕ) →
    IsDatabase d → Sound (graph_of p) d → IsAlike p d x → x.frame.ops ≡ [] → x.frame.end ≡ Return t →
    Follows p d (returns (bare_program p d) t (bare_side x)) (returns (with_functions p ls) t (placed_side x))

abbrev pub StartsFollow : Type 0
StartsFollow =
    (p : Program) (d : List (List ℕ × Directives)) (ls : List Located) (input : List ℕ) →
    IsProgram p → IsDatabase d → Sound (graph_of p) d → IsServed p d ls →
    Follows p d (start (bare_program p d) input) (start (with_functions p ls) input)

-- ---- all steps

-- from states that are alike and whose values are fine
abbrev pub StepsFollow : Type 0
StepsFollow =
    (p : Program) (d : List (List ℕ × Directives)) (ls : List Located) (x : Twin) →
    IsProgram p → IsDatabase d → Sound (graph_of p) d → IsServed p d ls → IsAlike p d x → AreFine p (bare_side x) →
    Follows p d (step (bare_program p d) (bare_side x)) (step (with_functions p ls) (placed_side x))
