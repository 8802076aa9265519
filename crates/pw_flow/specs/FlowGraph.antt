-- The names in a flow graph.
use Rattle.std.specs.Prelude.{ℕ, List, [], ◌∷◌, ◌++◌, map}
use Rattle.std.specs.List.{flat_map}
use Rattle.pw_flow.specs.declared.flow.Item.{Item}
use Rattle.pw_flow.specs.declared.flow.Item.TheVariants.{Bytes, Address}
use Rattle.pw_flow.specs.declared.flow.FlowGlobal.{FlowGlobal}
use Rattle.pw_flow.specs.declared.flow.Op.{Op}
use Rattle.pw_flow.specs.declared.flow.Op.TheVariants.{AddrGlobal, AddrFn, LoadG, StoreG, Call}
use Rattle.pw_flow.specs.declared.flow.Block.{Block}
use Rattle.pw_flow.specs.declared.flow.FlowFn.{FlowFn}
use Rattle.pw_flow.specs.declared.flow.FlowModule.{FlowModule}

abbrev pub global_names : FlowModule → List (List ℕ)
global_names m = map (λ g. g.name) m.globals

abbrev pub function_names : FlowModule → List (List ℕ)
function_names m = map (λ f. f.name) m.functions

abbrev pub declared_names : FlowModule → List (List ℕ)
declared_names m = map (λ d. d.0) m.declared

-- the names that an item names, and those that an operation names
abbrev pub item_names : Item → List (List ℕ)
item_names (Bytes bytes) = []
item_names (Address name offset) = name ∷ []

abbrev pub op_names : Op → List (List ℕ)
op_names (AddrGlobal t g n) = g ∷ []
op_names (AddrFn t f) = f ∷ []
op_names (LoadG t g k) = g ∷ []
op_names (StoreG g a k) = g ∷ []
op_names (Call t f args) = f ∷ []
op_names _ = []

abbrev pub names_in_global : FlowGlobal → List (List ℕ)
names_in_global g = flat_map (λ placed. item_names placed.1) g.items

abbrev pub names_in_block : Block → List (List ℕ)
names_in_block b = flat_map op_names b.ops

abbrev pub names_in_function : FlowFn → List (List ℕ)
names_in_function f = flat_map names_in_block f.blocks

-- every name that an item or an operation of the module names
abbrev pub named_in : FlowModule → List (List ℕ)
named_in m = flat_map names_in_global m.globals ++ flat_map names_in_function m.functions
