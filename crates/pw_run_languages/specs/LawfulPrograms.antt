-- What a lawful program of flow modules is, what the rules of webs see of it, and the same program under directives.
use Rattle.std.specs.Prelude.{ℕ, ◌≡◌, ◌<◌, ◌≤◌, Bool, true, false, ◌&&◌, if◌then◌else◌, Option, Some, None, List, [], ◌∷◌, ◌++◌, map, filter, Contains}
use Rattle.std.specs.List.{flat_map, AllByRecursion}
use Rattle.std.specs.Str.{bytes_eq}
pub use Rattle.pw_value.specs.NameLists.{has_name}
use Rattle.pw_value.specs.ProgramNames.{start_name}
use Rattle.pw_value.specs.Limits.{stack_limit}
use Rattle.pw_value.specs.declared.value.Kind.{Kind}
use Rattle.pw_files.specs.Rising.{IsRising}
pub use Rattle.pw_flow.specs.Addressed.{addressed}
use Rattle.pw_flow.specs.declared.flow.Item.{Item}
use Rattle.pw_flow.specs.declared.flow.Item.TheVariants.{Bytes, Address}
use Rattle.pw_flow.specs.declared.flow.Op.{Op}
use Rattle.pw_flow.specs.declared.flow.Op.TheVariants.{AddrGlobal, AddrFn, LoadG, StoreG, Call, CallInd}
use Rattle.pw_flow.specs.declared.flow.FlowGlobal.{FlowGlobal}
use Rattle.pw_flow.specs.declared.flow.FlowFn.{FlowFn}
use Rattle.pw_flow.specs.FlowGraph.{names_in_global, named_in}
use Rattle.pw_flow.specs.ValidFlow.{IsValid, AreDistinct}
use Rattle.pw_db_sound.specs.CallGraphs.{Node, Graph}
use Rattle.pw_run_languages.specs.Programs.{Program, functions_of, globals_of, names_of, shape_of}

-- ---- lawful programs

abbrev pub ops_of : FlowFn → List Op
ops_of f = flat_map (λ b. b.ops) f.blocks

abbrev pub IsFunctionName : Program → List ℕ → Type 0
IsFunctionName p name = Contains (names_of p) name

abbrev pub IsGlobalName : Program → List ℕ → Type 0
IsGlobalName p name = Contains (map (λ g. g.name) (globals_of p)) name

-- a name that an operation names is that of a function, or of a global, as the operation wants one
abbrev pub NamesRightly : Program → Op → Type 0
NamesRightly p (AddrGlobal t g n) = IsGlobalName p g
NamesRightly p (AddrFn t f) = IsFunctionName p f
NamesRightly p (LoadG t g k) = IsGlobalName p g
NamesRightly p (StoreG g a k) = IsGlobalName p g
NamesRightly p (Call t f args) = IsFunctionName p f
NamesRightly p _ = Unit {0}

-- An item is of bytes, or an address, to which nothing is added where it is that of a function.
abbrev pub IsItem : Program → Item → Type 0
IsItem p (Bytes bytes) = AllByRecursion (λ byte. byte < 256) bytes
IsItem p (Address name offset) = IsFunctionName p name → offset ≡ 0

-- The modules are lawful and stand in byte order. No name is defined twice, and every name that they use is
-- defined, as what it is used for. The program has a `$start`, which takes nothing, and the stack is no greater than may
-- be asked for.
pub record IsProgram (p : Program) : Type 0 where
  pub modules : AllByRecursion IsValid p.modules
  pub order : IsRising (map (λ m. m.name) p.modules)
  pub names : AreDistinct (names_of p ++ map (λ g. g.name) (globals_of p))
  pub defined : (name : List ℕ) → Contains (flat_map named_in p.modules) name → Contains (names_of p ++ map (λ g. g.name) (globals_of p)) name
  pub ops : (f : FlowFn) (o : Op) → Contains (functions_of p) f → Contains (ops_of f) o → NamesRightly p o
  pub items : (g : FlowGlobal) → Contains (globals_of p) g → AllByRecursion (λ i. IsItem p i.1) g.items
  pub start : Contains (map (λ f. f.name) (functions_of p)) start_name
  pub start_takes_nothing : (f : FlowFn) → Contains (functions_of p) f → f.name ≡ start_name → f.params ≡ 0
  pub stack : p.stack ≤ stack_limit

-- the stack can hold the frame of `$start`
abbrev pub StartFits : Program → Type 0
StartFits p = p.frame_of start_name ≤ p.stack

-- ---- what the rules of webs see

-- the names whose address is taken, in code or in data
abbrev pub taken_names : Program → List (List ℕ)
taken_names p =
    flat_map names_in_global (globals_of p) ++ flat_map (λ f. flat_map addressed (ops_of f)) (functions_of p)

-- a scalar that is not volatile and whose address nothing takes
abbrev pub eligible_as : Program → FlowGlobal → List (List ℕ × Kind)
eligible_as p g = by_kind g.kind
  where
    by_kind : Option Kind → List (List ℕ × Kind)
    by_kind (Some k) = if g.volatile then [] else if has_name (taken_names p) g.name then [] else (g.name, k) ∷ []
    by_kind None = []

abbrev pub eligible_of : Program → List (List ℕ × Kind)
eligible_of p = flat_map (eligible_as p) (globals_of p)

abbrev pub eligible_names : Program → List (List ℕ)
eligible_names p = map (λ e. e.0) (eligible_of p)

abbrev pub has_shape : Option (List ℕ) → List ℕ → Bool
has_shape (Some own) shape = bytes_eq own shape
has_shape None shape = false

-- the functions that an operation may call: by its name, or of its shape where their address is taken
abbrev pub called : Program → Op → List (List ℕ)
called p (Call t f args) = f ∷ []
called p (CallInd t a shape args) =
    filter (λ name. has_name (taken_names p) name && has_shape (shape_of p name) shape) (names_of p)
called p _ = []

abbrev pub read_by : Program → Op → List (List ℕ)
read_by p (LoadG t g k) = filter (bytes_eq g) (eligible_names p)
read_by p _ = []

abbrev pub written_by : Program → Op → List (List ℕ)
written_by p (StoreG g a k) = filter (bytes_eq g) (eligible_names p)
written_by p _ = []

abbrev pub node_of : Program → FlowFn → Node
node_of p f = record {
  name = f.name;
  calls = flat_map (called p) (ops_of f);
  reads = flat_map (read_by p) (ops_of f);
  writes = flat_map (written_by p) (ops_of f);
  defined = true;
  taken = has_name (taken_names p) f.name;
}

unfoldable pub graph_of : Program → Graph
graph_of p = record { eligible = eligible_of p; nodes = map (node_of p) (functions_of p) }
