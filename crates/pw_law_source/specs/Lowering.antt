-- What lowering owes: the flow graphs of a program do what the program means, and at each call and return the
-- globals have the values that the C meaning gives them.
use Rattle.std.specs.Prelude.{ℕ, suc, ◌≡◌, ◌≢◌, true, Option, Some, None, Ok, List, [], ◌∷◌, map, Contains}
use Rattle.pw_value.specs.declared.value.Kind.{Kind}
use Rattle.pw_value.specs.declared.value.Value.{Value}
use Rattle.pw_value.specs.declared.value.Value.TheVariants as V
use Rattle.pw_value.specs.declared.value.Byte.{Byte}
use Rattle.pw_value.specs.declared.value.Byte.TheVariants as B
use Rattle.pw_value.specs.declared.value.Pointer.{Pointer}
use Rattle.pw_value.specs.declared.value.Pointer.TheVariants as P
use Rattle.pw_value.specs.Objects.{Object, object_at}
use Rattle.pw_value.specs.Shapes.{Agree}
use Rattle.pw_value.specs.ProgramNames.{main_name, main_shape}
use Rattle.pw_flow.specs.declared.flow.FlowGlobal.{FlowGlobal}
use Rattle.pw_flow.specs.declared.flow.FlowFn.{FlowFn}
use Rattle.pw_flow.specs.declared.flow.FlowModule.{FlowModule}
use Rattle.pw_lower.specs.Modules.{lowered}
use Rattle.pw_token.specs.declared.token.Token.{Token}
use Rattle.pw_token.specs.Tokenization.{IsLexed}
use Rattle.pw_tree.specs.Grammar.{IsTreeOf, spelled_all}
use Rattle.pw_tree.specs.Trees.{Module}
use Rattle.pw_types.specs.TypedTrees.{FunctionValue}
use Rattle.pw_check_rules.specs.Checks.{Checks}
use Rattle.pw_law_lower.specs.Parts.{partless}
use Rattle.pw_cmean.specs.Worlds.{Program, ProgramModule}
use Rattle.pw_cmean.specs.Acts as source
use Rattle.pw_cmean.specs.Typed.{IsWellTyped}
use Rattle.pw_cmean.specs.SourceRun.{source_run}
use Rattle.pw_run.specs.Runs.{Refines, AreAlike}
use Rattle.pw_run_languages.specs.Memory.{scalar_of}
use Rattle.pw_run_languages.specs.Programs as flows
use Rattle.pw_run_languages.specs.Programs.{Library, library_at, library_shape, globals_of, function_named, AreBytes, NoneForLibrary}
use Rattle.pw_run_languages.specs.FlowRun as flow
use Rattle.pw_run_languages.specs.FlowRun.{flow_run}
use Rattle.pw_run_languages.specs.LawfulPrograms.{IsProgram}
use Rattle.pw_law_source.specs.Source.{source_progress}

-- ---- accepted programs

abbrev pub flow_program : Program → (List ℕ → ℕ) → ℕ → flows.Program
flow_program p frame_of stack = record { modules = map (λ m. lowered m.name m.tree) p.modules; frame_of = frame_of; stack = stack }

-- all declarations of a name, the library's among them, have shapes that agree, and `main` takes nothing and gives an
-- int
pub record DeclareAlike (p : flows.Program) : Type 0 where
  pub declared : (m n : FlowModule) (name s t : List ℕ) → Contains p.modules m → Contains p.modules n
      → Contains m.declared (name, s) → Contains n.declared (name, t) → Agree s t
  pub library : (m : FlowModule) (g : Library) (name s : List ℕ) → Contains p.modules m → Contains m.declared (name, s)
      → library_at name ≡ Some g → Agree s (library_shape g)
  pub main : (f : FlowFn) → function_named p main_name ≡ Some f → f.shape ≡ main_shape

-- the modules are well typed, and their graphs make a program
pub record IsAccepted (p : Program) (frame_of : List ℕ → ℕ) (stack : ℕ) : Type 0 where
  pub typed : IsWellTyped p
  pub program : IsProgram (flow_program p frame_of stack)
  pub alike : DeclareAlike (flow_program p frame_of stack)

-- the typed tree is what checking answers for a text
pub record IsChecked (m : ProgramModule) : Type 0 where
  pub text : List ℕ
  pub tokens : List Token
  pub syntax : Module
  pub lexed : IsLexed text tokens
  pub parsed : IsTreeOf (spelled_all text tokens) syntax
  pub is : Checks syntax (Ok m.tree)

abbrev pub AreChecked : Program → Type 0
AreChecked p = (m : ProgramModule) → Contains p.modules m → IsChecked m

-- no initialiser of a local by a list in braces or by a string is without parts
abbrev pub HaveParts : Program → Type 0
HaveParts p = (m : ProgramModule) (f : FunctionValue) → Contains p.modules m → Contains m.tree.functions f → partless f.body ≡ 0

-- ---- the globals at calls and returns

-- A pointer into an object leads into the object that stands for it, and of an object that has ended nowhere in
-- particular; a function stands for itself.
abbrev pub Follows : {X : Type 0} → (ℕ → ℕ) → List Object → (Pointer → X) → Pointer → X → Type 0
Follows place objects form (P.Function f) x = x ≡ form (P.Function f)
Follows place objects form (P.Object o i) x = (object_at objects o).live ≡ true → x ≡ form (P.Object (place o) i)

abbrev pub ByteKept : (ℕ → ℕ) → List Object → Byte → Byte → Type 0
ByteKept place objects B.Undefined b = Unit {0}
ByteKept place objects (B.Num n) b = b ≡ B.Num n
ByteKept place objects (B.Piece q i) b = Follows place objects (λ q. B.Piece q i) q b

abbrev pub ValueKept : (ℕ → ℕ) → List Object → Value → Value → Type 0
ValueKept place objects V.Undefined v = Unit {0}
ValueKept place objects (V.Num n) v = v ≡ V.Num n
ValueKept place objects V.Null v = v ≡ V.Null
ValueKept place objects (V.At q) v = Follows place objects V.At q v
ValueKept place objects (V.Piece q i) v = Follows place objects (λ q. V.Piece q i) q v

-- what a load of its kind gives, where it is a scalar
abbrev pub ScalarKept : (ℕ → ℕ) → List Object → Option Kind → List Byte → List Byte → Type 0
ScalarKept place objects None bytes kept = Unit {0}
ScalarKept place objects (Some k) bytes kept = ValueKept place objects (scalar_of k bytes) (scalar_of k kept)

pub record GlobalKept (place : ℕ → ℕ) (objects : List Object) (g : FlowGlobal) (has keeps : List Byte) : Type 0 where
  pub bytes : AreAlike (ByteKept place objects) has keeps
  pub scalar : ScalarKept place objects g.kind has keeps

-- the global objects have the first numbers on both sides
abbrev pub GlobalsKept : (ℕ → ℕ) → List FlowGlobal → ℕ → List Object → List Object → Type 0
GlobalsKept place [] n objects kept = Unit {0}
GlobalsKept place (g ∷ gs) n objects kept =
    (place n ≡ n) × GlobalKept place objects g (object_at objects n).bytes (object_at kept n).bytes
    × GlobalsKept place gs (suc n) objects kept

-- for some choice of which object stands for which, each global has its value
pub record SameGlobals (p : flows.Program) (objects kept : List Object) : Type 0 where
  pub place : ℕ → ℕ
  pub globals : GlobalsKept place (globals_of p) 0 objects kept

abbrev pub MomentKept : flows.Program → source.Moment → flow.Moment → Type 0
MomentKept p (source.Called f objects) (flow.Called g kept) = (g ≡ f) × SameGlobals p objects kept
MomentKept p (source.Returned f objects) (flow.Returned g kept) = (g ≡ f) × SameGlobals p objects kept
MomentKept p m n = ⊥

-- ---- the laws

-- what the meaning of C owes: the run of an accepted program comes nowhere but to the ends that the meaning has
abbrev pub SourceIsNeverWrong : Type 0
SourceIsNeverWrong =
    (p : Program) (frame_of : List ℕ → ℕ) (stack : ℕ) (input : List ℕ) →
    AreChecked p → IsAccepted p frame_of stack → AreBytes input →
    (n : ℕ) → (source_run p frame_of stack input n).end ≢ source.Wrong

-- What lowering owes: the run of the flow graphs meets the source's, also where that comes to an undefined operation, up to it.
abbrev pub LoweringKeepsRuns : Type 0
LoweringKeepsRuns =
    (p : Program) (frame_of : List ℕ → ℕ) (stack : ℕ) (input : List ℕ) →
    AreChecked p → IsAccepted p frame_of stack → NoneForLibrary frame_of → AreBytes input →
    Refines (MomentKept (flow_program p frame_of stack))
    (source_progress p frame_of stack input) (flow_run (flow_program p frame_of stack) input)
