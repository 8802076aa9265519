-- The second phase: from a flow graph and its directives to an object.
use Rattle.std.specs.Prelude.{ℕ, ◌≡◌, List, [], ◌∷◌, All, map}
use Rattle.pw_flow.specs.FlowGraph.{function_names, named_in}
use Rattle.pw_flow.specs.declared.flow.FlowFn.{FlowFn}
use Rattle.pw_flow.specs.declared.flow.FlowModule.{FlowModule}
use Rattle.pw_flowfile.specs.FlowFile.{IsFlowFile}
use Rattle.pw_summarise.specs.Summarises.{IsOrdered}
use Rattle.pw_db.specs.declared.database.Directives.{Directives}
use Rattle.pw_db.specs.Database.{CanBeStored, HasDirectives, IsStored}
use Rattle.pw_db_file.specs.Spelling.{IsPayload}
use Rattle.pw_object.specs.Object.{object_version}
use Rattle.pw_object.specs.declared.object.Object.{Object}
use Rattle.pw_object.specs.declared.functions.ObjectFn.{ObjectFn}
use Rattle.pw_webflow.specs.Direction.{directed}
use Rattle.pw_alloc.specs.declared.located.Located.{Located}
use Rattle.pw_alloc_temps.specs.Temporaries.{allocated}
use Rattle.pw_select.specs.Selection.{selected}
use Rattle.pw_delay.specs.declared.code.Code.{Code}
use Rattle.pw_delay.specs.Placement.{placed}

abbrev pub code_of : Located → Code
code_of l = placed (selected l)

-- a function as words, under its directives
abbrev pub compiled : FlowFn → Directives → ObjectFn
compiled f d = record {
  name = f.name;
  frame = (allocated (directed f d)).frame;
  words = (code_of (allocated (directed f d))).words;
  fixes = (code_of (allocated (directed f d))).fixes;
}

-- functions as words, each under the directives that stand at its place
abbrev pub all_compiled : List FlowFn → List (List ℕ × Directives) → List ObjectFn
all_compiled [] ds = []
all_compiled (f ∷ fs) [] = []
all_compiled (f ∷ fs) (d ∷ ds) = compiled f d.1 ∷ all_compiled fs ds

-- each function of a module once, in the module's order, with directives that a payload can hold
pub record AreDirectivesOf (flow : FlowModule) (directives : List (List ℕ × Directives)) : Type 0 where
  pub functions : map (λ d. d.0) directives ≡ function_names flow
  pub storable : CanBeStored directives

-- the functions of a module in its order, each with its directives in a database, which are empty where it lacks the function
pub record AreDirectivesIn (db : List (List ℕ × Directives)) (flow : FlowModule) (directives : List (List ℕ × Directives)) : Type 0 where
  pub of_module : AreDirectivesOf flow directives
  pub each : All (HasDirectives db) directives

-- the bytes are those of the payload of the directives that say something
abbrev pub IsPayloadOf : List ℕ → List (List ℕ × Directives) → Type 0
IsPayloadOf bytes directives = (stored : List (List ℕ × Directives)) × IsStored directives stored × IsPayload bytes stored

-- The object of a module under directives: its functions as words, the file and the payload that it was made of, and
-- the module's lists, where what it declares and uses stands once each in byte order.
pub record IsObjectOf (flow : FlowModule) (directives : List (List ℕ × Directives)) (o : Object) : Type 0 where
  pub version : o.version ≡ object_version
  pub of_module : o.module ≡ flow.name
  pub flow_file : IsFlowFile o.flow flow
  pub payload : IsPayloadOf o.directives directives
  pub declared : IsOrdered (λ d. d.0) flow.declared o.declared
  pub used : IsOrdered (λ name. name) (named_in flow) o.used
  pub globals : o.globals ≡ flow.globals
  pub functions : o.functions ≡ all_compiled flow.functions directives
