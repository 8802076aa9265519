-- The file of a flow graph: how a module is spelled as bytes, and which modules have a spelling.
use Rattle.std.specs.Prelude.{ℕ, List, [], ◌∷◌, ◌++◌, length}
use Rattle.std.specs.List.{flat_map, AllByRecursion}
use denote.Enum.Bare.{sameb}
use Rattle.pw_fields.specs.Fields.{u8, u32, text, flag, parts, FitsU32, FitsText}
use Rattle.pw_fields.specs.FieldNames.{name_table, name_index}
use Rattle.pw_files.specs.Kinds.{kind as kind_byte}
use Rattle.pw_files.specs.Names.{shaped, FitsShapes}
use Rattle.pw_files.specs.Rising.{counted, FitsList}
use Rattle.pw_files.specs.Contents.{Contents, IsContents, IsFileWith}
use Rattle.pw_flow.specs.declared.flow.FlowModule.{FlowModule}
use Rattle.pw_flow.specs.declared.flow.Item.{Item}
use Rattle.pw_flow.specs.declared.flow.FlowGlobal.{FlowGlobal}
use Rattle.pw_flow.specs.declared.flow.Block.{Block}
use Rattle.pw_flow.specs.declared.flow.FlowFn.{FlowFn}
use Rattle.pw_flow.specs.declared.flow.Item.TheVariants.{Bytes, Address}
use Rattle.pw_flow.specs.FlowGraph.{names_in_global, names_in_function, declared_names}
use Rattle.pw_flow.specs.ValidFlow.{IsValid}
use Rattle.pw_flow_ops.specs.Operations.{place, op, ending, FitsOp}
use Rattle.pw_flowfile.specs.contracts.globals.ItemForm.{the_type as the_item_forms}
use Rattle.pw_flowfile.specs.declared.globals.ItemForm.{ItemForm}
use Rattle.pw_flowfile.specs.declared.globals.ItemForm.TheVariants as form

-- ---- global objects, under a table of names

-- in the order of their bytes
abbrev pub item_forms : List ItemForm
item_forms = form.Bytes ∷ form.Address ∷ []

abbrev pub form_number : ItemForm → ℕ
form_number = place (sameb the_item_forms) item_forms

-- the byte at the beginning of an item
abbrev pub form_byte : ItemForm → List ℕ
form_byte f = u8 (form_number f)

abbrev pub item : List (List ℕ) → Item → List ℕ
item names (Bytes bytes) = parts (form_byte form.Bytes ∷ text bytes ∷ [])
item names (Address name offset) = parts (form_byte form.Address ∷ name_index names name ∷ u32 offset ∷ [])

abbrev pub placed_item : List (List ℕ) → ℕ × Item → List ℕ
placed_item names placed = parts (u32 placed.0 ∷ item names placed.1 ∷ [])

-- what stands behind an object's name
abbrev pub global_body : List (List ℕ) → FlowGlobal → List ℕ
global_body names g = parts (u32 g.size ∷ text g.shape ∷ kind_byte g.kind ∷ flag g.volatile ∷ u32 (length g.items) ∷ flat_map (placed_item names) g.items ∷ [])

abbrev pub global : List (List ℕ) → FlowGlobal → List ℕ
global names g = parts (name_index names g.name ∷ global_body names g ∷ [])

-- ---- functions

abbrev pub block : List (List ℕ) → Block → List ℕ
block names b = parts (u32 b.depth ∷ u32 (length b.ops) ∷ flat_map (op names) b.ops ∷ ending b.end ∷ [])

abbrev pub function : List (List ℕ) → FlowFn → List ℕ
function names f = parts (name_index names f.name ∷ text f.shape ∷ u32 f.params ∷ u32 f.temps ∷ u32 (length f.slots) ∷ flat_map u32 f.slots
    ∷ u32 (length f.blocks) ∷ flat_map (block names) f.blocks ∷ [])

-- ---- the whole

-- the names of an object or a function, and those that it names
abbrev pub all_in_global : FlowGlobal → List (List ℕ)
all_in_global g = g.name ∷ names_in_global g

abbrev pub all_in_function : FlowFn → List (List ℕ)
all_in_function f = f.name ∷ names_in_function f

-- every name of a module, in the order of the file
abbrev pub names_of : FlowModule → List (List ℕ)
names_of m = m.name ∷ (flat_map all_in_global m.globals ++ (declared_names m ++ flat_map all_in_function m.functions))

abbrev pub spelling : Contents FlowModule → List ℕ
spelling c = parts (name_table c.names ∷ name_index c.names c.value.name ∷ counted (global c.names) c.value.globals ∷ counted (shaped c.names) c.value.declared
    ∷ counted (function c.names) c.value.functions ∷ [])

-- ---- which modules have a spelling: counts and texts have lengths of 32 bits

pub record FitsBlock (b : Block) : Type 0 where
  pub count : FitsU32 (length b.ops)
  pub ops : AllByRecursion FitsOp b.ops

pub record FitsFunction (f : FlowFn) : Type 0 where
  pub shape : FitsText f.shape
  pub count : FitsU32 (length f.blocks)
  pub blocks : AllByRecursion FitsBlock f.blocks

pub record FitsGlobal (g : FlowGlobal) : Type 0 where
  pub shape : FitsText g.shape
  pub count : FitsU32 (length g.items)

pub record FitsModule (m : FlowModule) : Type 0 where
  pub globals : FitsList FitsGlobal m.globals
  pub declared : FitsShapes m.declared
  pub functions : FitsList FitsFunction m.functions

-- PAWF
abbrev pub kind_of_file : ℕ
kind_of_file = 0x50415746

-- the version of the form of a flow file
abbrev pub flow_version : ℕ
flow_version = 1

-- the bytes are the file of the flow graph
abbrev pub IsFlowFile : List ℕ → FlowModule → Type 0
IsFlowFile = IsFileWith kind_of_file flow_version flow_version (λ version. spelling) (λ version. IsContents IsValid FitsModule names_of)
