-- What a summary says of a module's flow graph.
use Rattle.std.specs.Prelude.{ℕ, ◌≡◌, ◌*◌, ◌-◌, ◌^◌, ◌↔◌, ◌==◌, Bool, false, if◌then◌else◌, Option, Some, None, List, [], ◌∷◌, ◌++◌, map, min, count_by, Contains}
use Rattle.std.specs.List.{flat_map, sum_by}
use Rattle.std.specs.Option.{option_or}
use Rattle.std.specs.Str.{bytes_eq}
use Rattle.pw_value.specs.declared.value.Kind.{Kind}
pub use Rattle.pw_flow.specs.Addressed.{addressed}
use Rattle.pw_flow.specs.declared.flow.FlowGlobal.{FlowGlobal}
use Rattle.pw_flow.specs.declared.flow.Op.{Op}
use Rattle.pw_flow.specs.declared.flow.FlowFn.{FlowFn}
use Rattle.pw_flow.specs.declared.flow.FlowModule.{FlowModule}
use Rattle.pw_flow.specs.declared.flow.Op.TheVariants.{LoadG, StoreG, Call, CallInd}
use Rattle.pw_flow.specs.FlowGraph.{names_in_global, named_in}
use Rattle.pw_files.specs.Rising.{IsRising}
use Rattle.pw_summary.specs.Summary.{weight_bound, summary_version}
use Rattle.pw_flow.specs.Outline.{outline_of}
use Rattle.pw_live_needs.specs.Needs.{need}
use Rattle.pw_summary.specs.declared.summary.Uses.{Uses}
use Rattle.pw_summary.specs.declared.summary.Summary.{Summary}

-- What a list has, each item once, in byte order of keys by which the items differ.
pub record IsOrdered {X : Type 0} (key : X → List ℕ) (source ordered : List X) : Type 0 where
  pub rising : IsRising (map key ordered)
  pub of : (x : X) → Contains ordered x ↔ Contains source x

-- ---- operations

-- the function that an operation calls by its name
abbrev pub called : Op → List (List ℕ)
called (Call t f args) = f ∷ []
called _ = []

-- the shape of a call through a value
abbrev pub called_shape : Op → List (List ℕ)
called_shape (CallInd t a shape args) = shape ∷ []
called_shape _ = []

-- the global that an operation reads or writes by its name
abbrev pub referenced : Op → List (List ℕ)
referenced (LoadG t g k) = g ∷ []
referenced (StoreG g a k) = g ∷ []
referenced _ = []

-- what the operations of a function have of these
abbrev pub in_function : (Op → List (List ℕ)) → FlowFn → List (List ℕ)
in_function parts f = flat_map (λ b. flat_map parts b.ops) f.blocks

-- what the items and the operations of a module have, where each name in an item counts
abbrev pub in_module : (Op → List (List ℕ)) → FlowModule → List (List ℕ)
in_module parts m = flat_map names_in_global m.globals ++ flat_map (in_function parts) m.functions

-- ---- weights

-- the greatest that a summary holds
abbrev pub most : ℕ
most = weight_bound - 1

-- the loops from which on deeper ones weigh no more
abbrev pub deepest : ℕ
deepest = 4

-- of an operation in a block inside so many loops
abbrev pub weight : ℕ → ℕ
weight depth = 8 ^ min deepest depth

abbrev pub is_read : List ℕ → Op → Bool
is_read name (LoadG t g k) = bytes_eq g name
is_read name _ = false

abbrev pub is_write : List ℕ → Op → Bool
is_write name (StoreG g a k) = bytes_eq g name
is_write name _ = false

-- the sum of the weights of the operations that pass a test, as far as a summary can hold it
abbrev pub weighted : (Op → Bool) → FlowFn → ℕ
weighted test f = min most (sum_by (λ b. weight b.depth * count_by test b.ops) f.blocks)

-- a global with its weighted reads and its weighted writes
abbrev pub reference : FlowFn → List ℕ → List ℕ × ℕ × ℕ
reference f name = (name, weighted (is_read name) f, weighted (is_write name) f)

-- ---- names whose address is taken

-- the shape that stands first beside a name
abbrev pub shape_in : List (List ℕ × List ℕ) → List ℕ → Option (List ℕ)
shape_in [] name = None
shape_in (f ∷ fs) name = if bytes_eq f.0 name then Some f.1 else shape_in fs name

-- a function's shape begins with f
abbrev pub is_function_shape : List ℕ → Bool
is_function_shape [] = false
is_function_shape (first ∷ shape) = first == 102

abbrev pub if_function : Option (List ℕ) → Option (List ℕ)
if_function None = None
if_function (Some shape) = if is_function_shape shape then Some shape else None

-- the shape of a function: of its definition, or else of its declaration
abbrev pub function_shape : List (List ℕ × List ℕ) → List (List ℕ × List ℕ) → List ℕ → Option (List ℕ)
function_shape functions declared name = option_or (shape_in functions name) (if_function (shape_in declared name))

abbrev pub as_taken : List ℕ → Option (List ℕ) → List (List ℕ × List ℕ)
as_taken name None = []
as_taken name (Some shape) = (name, shape) ∷ []

abbrev pub as_escaped : List ℕ → Option (List ℕ) → List (List ℕ)
as_escaped name None = name ∷ []
as_escaped name (Some shape) = []

-- names that are functions, with their shapes, and names that are none
abbrev pub taken_of : List (List ℕ × List ℕ) → List (List ℕ × List ℕ) → List (List ℕ) → List (List ℕ × List ℕ)
taken_of functions declared names = flat_map (λ name. as_taken name (function_shape functions declared name)) names

abbrev pub escaped_of : List (List ℕ × List ℕ) → List (List ℕ × List ℕ) → List (List ℕ) → List (List ℕ)
escaped_of functions declared names = flat_map (λ name. as_escaped name (function_shape functions declared name)) names

-- ---- the summary

abbrev pub global_entry : FlowGlobal → List ℕ × List ℕ × Option Kind × Bool
global_entry g = (g.name, g.shape, g.kind, g.volatile)

abbrev pub function_entry : FlowFn → List ℕ × List ℕ
function_entry f = (f.name, f.shape)

abbrev pub function_entries : FlowModule → List (List ℕ × List ℕ)
function_entries m = map function_entry m.functions

pub record IsUsesOf (f : FlowFn) (u : Uses) : Type 0 where
  pub calls : IsOrdered (λ name. name) (in_function called f) u.calls
  pub shapes : IsOrdered (λ shape. shape) (in_function called_shape f) u.shapes
  pub refs : IsOrdered (λ r. r.0) (map (reference f) (in_function referenced f)) u.refs
  pub need : u.need ≡ need (outline_of f)

-- what functions use, in the order of the functions: each is one of these
abbrev pub AreUsesOf : List FlowFn → List (List ℕ × List ℕ) → List Uses → Type 0
AreUsesOf fs [] [] = Unit {0}
AreUsesOf fs [] (u ∷ us) = ⊥
AreUsesOf fs (entry ∷ entries) [] = ⊥
AreUsesOf fs (entry ∷ entries) (u ∷ us) = ((f : FlowFn) × Contains fs f × (function_entry f ≡ entry) × IsUsesOf f u) × AreUsesOf fs entries us

pub record Summarises (m : FlowModule) (s : Summary) : Type 0 where
  pub version : s.version ≡ summary_version
  pub of_module : s.module ≡ m.name
  pub globals : IsOrdered (λ g. g.0) (map global_entry m.globals) s.globals
  pub functions : IsOrdered (λ f. f.0) (function_entries m) s.functions
  pub declared : IsOrdered (λ d. d.0) m.declared s.declared
  pub used : IsOrdered (λ name. name) (named_in m) s.used
  pub taken : IsOrdered (λ f. f.0) (taken_of (function_entries m) m.declared (in_module addressed m)) s.taken
  pub escaped : IsOrdered (λ name. name) (escaped_of (function_entries m) m.declared (in_module addressed m)) s.escaped
  pub uses : AreUsesOf m.functions s.functions s.uses
