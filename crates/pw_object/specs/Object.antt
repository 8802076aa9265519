-- The object file of a module: the flow graph and the directives that it was made of, what it declares and
-- uses, its globals, and its functions as words.
use Rattle.std.specs.Prelude.{All, ℕ, ◌≡◌, List, [], ◌∷◌, ◌++◌, length, map, Contains}
use Rattle.std.specs.List.{flat_map, AllByRecursion}
use Rattle.pw_fields.specs.Fields.{text, parts, FitsU32, FitsText}
use Rattle.pw_fields.specs.FieldNames.{name_table, name_index}
use Rattle.pw_files.specs.Rising.{IsRising, counted, FitsList}
use Rattle.pw_files.specs.Names.{shaped, FitsShapes}
use Rattle.pw_files.specs.Contents.{Contents, IsContents, IsFileWith}
use Rattle.pw_value.specs.ProgramNames.{KeepsStart}
use Rattle.pw_flow.specs.declared.flow.FlowGlobal.{FlowGlobal}
use Rattle.pw_flow.specs.ValidFlow.{IsGlobal}
use Rattle.pw_flowfile.specs.FlowFile.{global, all_in_global, FitsGlobal}
use Rattle.pw_object.specs.declared.object.Object.{Object}
use Rattle.pw_object.specs.declared.functions.ObjectFn.{ObjectFn}
use Rattle.pw_object.specs.Functions.{IsFunction, function, names_of_function, IsFunctionNamed}

-- the version of object files and of the form of an object's words
abbrev pub object_version : ℕ
object_version = 4

-- ---- the parts

-- an object of these parts, in the version that objects have
abbrev pub whole_object : List ℕ → List ℕ → List ℕ → List (List ℕ × List ℕ) → List (List ℕ) → List FlowGlobal → List ObjectFn → Object
whole_object name flow directives declared used globals functions = record { version = object_version; «module» = name; flow = flow; directives = directives; declared = declared; used = used; globals = globals; functions = functions }

-- ---- the rules

abbrev pub global_names : Object → List (List ℕ)
global_names o = map (λ g. g.name) o.globals

abbrev pub function_names : Object → List (List ℕ)
function_names o = map (λ f. f.name) o.functions

pub record IsObject (o : Object) : Type 0 where
  pub version : o.version ≡ object_version
  pub declared : IsRising (map (λ d. d.0) o.declared)
  pub used : IsRising o.used
  pub globals : AllByRecursion IsGlobal o.globals
  pub functions : AllByRecursion IsFunction o.functions
  pub start : KeepsStart (function_names o) (global_names o)

-- ---- the spelling

-- the names that an object uses, in the order of their use
abbrev pub names_of : Object → List (List ℕ)
names_of o = o.module ∷ (map (λ d. d.0) o.declared ++ (o.used ++ (flat_map all_in_global o.globals ++ flat_map names_of_function o.functions)))

-- the names that an object uses stand in a table
pub record IsNamedBy (names : List (List ℕ)) (o : Object) : Type 0 where
  pub of_module : Contains names o.module
  pub declared : All (λ d. Contains names d.0) o.declared
  pub used : All (Contains names) o.used
  pub globals : AllByRecursion (λ g. AllByRecursion (Contains names) (all_in_global g)) o.globals
  pub functions : AllByRecursion (IsFunctionNamed names) o.functions

-- counts and texts that a file can hold
pub record FitsFunction (f : ObjectFn) : Type 0 where
  pub words : FitsU32 (length f.words)
  pub fixes : FitsU32 (length f.fixes)

pub record FitsObject (o : Object) : Type 0 where
  pub flow : FitsText o.flow
  pub directives : FitsText o.directives
  pub declared : FitsShapes o.declared
  pub used : FitsU32 (length o.used)
  pub globals : FitsList FitsGlobal o.globals
  pub functions : FitsList FitsFunction o.functions

-- what stands before the globals, and the rest
abbrev pub own : List (List ℕ) → Object → List ℕ
own names o = parts (name_index names o.module ∷ text o.flow ∷ text o.directives ∷ counted (shaped names) o.declared ∷ counted (name_index names) o.used ∷ [])

abbrev pub code : List (List ℕ) → Object → List ℕ
code names o = parts (counted (global names) o.globals ∷ counted (function names) o.functions ∷ [])

abbrev pub spelling : Contents Object → List ℕ
spelling c = parts (name_table c.names ∷ own c.names c.value ∷ code c.names c.value ∷ [])

-- PAWO
abbrev pub kind : ℕ
kind = 0x5041574f

-- the bytes are the file of the object
abbrev pub IsObjectFile : List ℕ → Object → Type 0
IsObjectFile = IsFileWith kind object_version object_version (λ version. spelling) (λ version. IsContents IsObject FitsObject names_of)
