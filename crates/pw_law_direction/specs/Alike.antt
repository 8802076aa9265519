-- When the states of the two runs are alike.
use Rattle.std.specs.Prelude.{ℕ, ◌≡◌, ◌≢◌, ◌+◌, true, Option, Some, IfSome, List, [], ◌∷◌, length, map, slice_index_or, Contains}
use Rattle.std.specs.List.{AllByRecursion}
use Rattle.pw_value.specs.declared.value.Kind.{Kind}
use Rattle.pw_value.specs.declared.value.Value.{Value}
use Rattle.pw_value.specs.declared.value.Value.TheVariants.{Undefined}
use Rattle.pw_value.specs.declared.value.Byte.{Byte}
use Rattle.pw_value.specs.ProgramNames.{start_name}
use Rattle.pw_value.specs.Objects.{Object, object_at, byte_at}
use Rattle.pw_value.specs.Values.{encoding}
use Rattle.pw_db.specs.declared.database.Web.{Web}
use Rattle.pw_db.specs.declared.database.Role.TheVariants.{Entry}
use Rattle.pw_db.specs.declared.database.Directives.{Directives}
use Rattle.pw_flow.specs.declared.flow.Op.{Op}
use Rattle.pw_flow.specs.ValidFlow.{kind_size}
use Rattle.pw_run.specs.Runs as run
use Rattle.pw_db_sound.specs.CallGraphs.{Graph, Calls}
use Rattle.pw_db_sound.specs.Sound.{Has, In}
use Rattle.pw_run_languages.specs.Traces.{calls_alone}
use Rattle.pw_run_languages.specs.Memory.{scalar_of, is_of_kind}
use Rattle.pw_run_languages.specs.Programs.{Program, functions_of, global_number}
use Rattle.pw_run_languages.specs.FlowRun as flow
use Rattle.pw_run_languages.specs.LawfulPrograms.{graph_of, eligible_of, eligible_names, ops_of}
use Rattle.pw_run_languages.specs.PlacedRun as web
use Rattle.pw_run_languages.specs.PlacedRun.{held}
use Rattle.pw_run_languages.specs.Direction.{MomentAlike}
pub use Rattle.pw_law_direction.specs.Values.{FinePointer, FineValue, FineByte}
use Rattle.pw_law_direction.specs.Pairs.{Active, Pair, active_of, flow_side, web_side, web_frames}

-- ---- values that lead to no eligible global, and to no function but one whose address is taken

-- the number of an object that is no eligible global
abbrev pub IsPlain : Program → ℕ → Type 0
IsPlain p o = (g : List ℕ) → Contains (eligible_names p) g → global_number p g ≢ Some o

abbrev pub AreTame : Program → List Value → Type 0
AreTame p temps = (t : ℕ) → FineValue p (slice_index_or temps t Undefined)

abbrev pub AreTameBytes : Program → List Byte → Type 0
AreTameBytes p bytes = (i : ℕ) → FineByte p (byte_at bytes i)

-- ---- active functions

-- It saved the registers of the webs that it enters, and no others.
pub record Saves (d : List (List ℕ × Directives)) (f : Active) : Type 0 where
  pub entries : (w : Web) → Has d f.function.name w Entry → Contains (map (λ s. s.0) f.saved) w.reg
  pub alone : (r : ℕ) → Contains (map (λ s. s.0) f.saved) r → (w : Web) × Has d f.function.name w Entry × (w.reg ≡ r)

-- A function of the program that runs its own code. None of its slots is an eligible global, and its temporaries lead to
-- none.
pub record IsActive (p : Program) (d : List (List ℕ × Directives)) (f : Active) : Type 0 where
  pub there : Contains (functions_of p) f.function
  pub code : (o : Op) → Contains f.ops o → Contains (ops_of f.function) o
  pub slots : (s : ℕ) → IsPlain p (f.base + s)
  pub temps : AreTame p f.temps
  pub saves : Saves d f

-- each is called by the one behind it, and the first of all was `$start`
abbrev pub Linked : Graph → List Active → Type 0
Linked g [] = ⊥
Linked g (f ∷ []) = f.function.name ≡ start_name
Linked g (f ∷ caller ∷ rest) = Calls g caller.function.name f.function.name × Linked g (caller ∷ rest)

-- ---- objects

abbrev pub names_active : List Active → List (List ℕ)
names_active fs = map (λ f. f.function.name) fs

-- an active function is in a web of the global that writes
pub record IsWritten (d : List (List ℕ × Directives)) (g : List ℕ) (active : List (List ℕ)) : Type 0 where
  pub function : List ℕ
  pub is_active : Contains active function
  pub web : Web
  pub within : In d web function
  pub global : web.global ≡ g
  pub writes : web.writes ≡ true

-- An eligible global, as an object of the flow run and as one of the directed run: both live, and the first holds a
-- value of its kind. Where it stands in a register, or in a word where that was saved, this holds the value. The
-- memory of the directed run has the value too, unless an active function may have written it.
pub record GlobalStands (d : List (List ℕ × Directives)) (active : List (List ℕ)) (g : List ℕ) (k : Kind) (place : Option Value) (a b : Object) : Type 0 where
  pub lives : a.live ≡ true
  pub lives_too : b.live ≡ true
  pub size : length a.bytes ≡ kind_size k
  pub size_too : length b.bytes ≡ kind_size k
  pub kind : is_of_kind k (scalar_of k a.bytes) ≡ true
  pub bytes : a.bytes ≡ encoding (scalar_of k a.bytes) (kind_size k)
  pub stands : IfSome place (λ v. v ≡ scalar_of k a.bytes)
  pub memory : ¬ IsWritten d g active → b.bytes ≡ a.bytes

abbrev pub GlobalsStand : Program → List (List ℕ × Directives) → List Active → (ℕ → Value) → List Object → List Object → Type 0
GlobalsStand p d active registers objects memory =
    (g : List ℕ) (k : Kind) (n : ℕ) → Contains (eligible_of p) (g, k) → global_number p g ≡ Some n →
    GlobalStands d (names_active active) g k (held g registers (web_frames d active)) (object_at objects n) (object_at memory n)

-- All other objects are the same. What is in them leads to no eligible global.
pub record ObjectsAlike (p : Program) (d : List (List ℕ × Directives)) (active : List Active) (registers : ℕ → Value) (objects memory : List Object) : Type 0 where
  pub count : length memory ≡ length objects
  pub others : (o : ℕ) → IsPlain p o → object_at memory o ≡ object_at objects o
  pub globals : GlobalsStand p d active registers objects memory
  pub tame : (o : ℕ) → AreTameBytes p (object_at objects o).bytes

-- ---- states

pub record IsAlike (p : Program) (d : List (List ℕ × Directives)) (x : Pair) : Type 0 where
  pub frame : IsActive p d x.frame
  pub callers : AllByRecursion (IsActive p d) x.callers
  pub linked : Linked (graph_of p) (active_of x)
  pub objects : ObjectsAlike p d (active_of x) x.registers x.objects x.memory
  pub log : run.AreAlike (MomentAlike p) x.moments (calls_alone x.trace)

-- ---- a step of the flow run, and what the directed run does

pub record GoesBoth (p : Program) (d : List (List ℕ × Directives)) (m : flow.Machine) (s : web.Step) : Type 0 where
  pub pair : Pair
  pub flow : m ≡ flow_side pair
  pub web : s ≡ web.On (web_side d pair)
  pub alike : IsAlike p d pair

pub record StopsBoth (p : Program) (d : List (List ℕ × Directives)) (end : run.End) (m : flow.Machine) (s : web.Step) : Type 0 where
  pub pair : Pair
  pub flow : m ≡ flow_side pair
  pub web : s ≡ web.Stopped end (web_side d pair)
  pub alike : IsAlike p d pair

-- where the flow run goes astray nothing is asked
abbrev pub Follows : Program → List (List ℕ × Directives) → flow.Step → web.Step → Type 0
Follows p d (flow.On m) s = GoesBoth p d m s
Follows p d (flow.Stopped end m) s = StopsBoth p d end m s
Follows p d flow.Astray s = Unit {0}
