-- Which flow graphs are lawful.
use Rattle.std.specs.Prelude.{ℕ, ◌≡◌, ◌≢◌, ◌+◌, ◌*◌, ◌/◌, ◌%◌, ◌<◌, ◌≤◌, ◌^◌, ◌⊎◌, Option, IfSome, List, [], ◌∷◌, ◌++◌, length, max}
use Rattle.std.specs.List.{AllByRecursion}
use Rattle.pw_value.specs.Limits.{size_limit, parameter_limit, room_limit}
use Rattle.pw_value.specs.Rounding.{slot_room}
use Rattle.pw_value.specs.ProgramNames.{IsOrdinary, KeepsStart}
use Rattle.pw_value.specs.declared.value.Kind.{Kind}
use Rattle.pw_value.specs.declared.value.Kind.TheVariants as kind
use Rattle.pw_flow.specs.declared.flow.End.{End}
use Rattle.pw_flow.specs.declared.flow.End.TheVariants as end
use Rattle.pw_flow.specs.declared.flow.Item.{Item}
use Rattle.pw_flow.specs.declared.flow.Item.TheVariants.{Bytes, Address}
use Rattle.pw_flow.specs.declared.flow.FlowGlobal.{FlowGlobal}
use Rattle.pw_flow.specs.declared.flow.Op.{Op}
use Rattle.pw_flow.specs.declared.flow.Op.TheVariants.{Const, Copy, Un, Bin, Ext, AddrGlobal, AddrSlot, AddrFn, LoadG, StoreG, Load, Store, Move, Call, CallInd}
use Rattle.pw_flow.specs.declared.flow.Block.{Block}
use Rattle.pw_flow.specs.declared.flow.FlowFn.{FlowFn}
use Rattle.pw_flow.specs.declared.flow.FlowModule.{FlowModule}
use Rattle.pw_flow.specs.FlowGraph.{global_names, function_names, declared_names, named_in}

-- a number of 32 bits
abbrev pub IsWord : ℕ → Type 0
IsWord n = n < 2 ^ 32

-- ---- global objects

abbrev pub kind_size : Kind → ℕ
kind_size kind.S8 = 1
kind_size kind.U8 = 1
kind_size kind.S16 = 2
kind_size kind.U16 = 2
kind_size kind.W32 = 4

-- how many bytes an item fills: an address has four
abbrev pub item_size : Item → ℕ
item_size (Bytes bytes) = length bytes
item_size (Address name offset) = 4

abbrev pub IsItem : Item → Type 0
IsItem (Bytes bytes) = Unit {0}
IsItem (Address name offset) = IsWord offset

-- Items rise and do not overlap, each inside so many bytes. Offsets rise strictly, behind an empty item
-- too.
abbrev pub AreItems : ℕ → ℕ → List (ℕ × Item) → Type 0
AreItems size free [] = Unit {0}
AreItems size free (i ∷ items) = ((free ≤ i.0) × (i.0 + item_size i.1 ≤ size) × IsItem i.1) × AreItems size (i.0 + max 1 (item_size i.1)) items

-- a scalar has the size of its kind
pub record IsGlobal (g : FlowGlobal) : Type 0 where
  pub size : IsWord g.size
  pub kind : IfSome g.kind (λ k. g.size ≡ kind_size k)
  pub items : AreItems g.size 0 g.items

-- ---- operations, in a function with so many temporaries and slots

abbrev pub IsResult : ℕ → Option ℕ → Type 0
IsResult temps t = IfSome t (λ t. t < temps)

pub record AreArguments (temps : ℕ) (args : List ℕ) : Type 0 where
  pub few : length args ≤ parameter_limit
  pub below : AllByRecursion (λ a. a < temps) args

abbrev pub IsUnit : ℕ → Type 0
IsUnit unit = (unit ≡ 1) ⊎ (unit ≡ 2) ⊎ (unit ≡ 4)

-- a positive number of units, which come to no more than an object may have
pub record IsMoved (size unit : ℕ) : Type 0 where
  pub units : IsUnit unit
  pub whole : size % unit ≡ 0
  pub positive : 0 < size
  pub few : size ≤ size_limit

abbrev pub IsOp : ℕ → ℕ → Op → Type 0
IsOp temps slots (Const t n) = (t < temps) × IsWord n
IsOp temps slots (Copy t a) = (t < temps) × (a < temps)
IsOp temps slots (Un k t a) = (t < temps) × (a < temps)
IsOp temps slots (Bin k t a b) = (t < temps) × (a < temps) × (b < temps)
IsOp temps slots (Ext k t a) = (t < temps) × (a < temps)
IsOp temps slots (AddrGlobal t g n) = (t < temps) × IsWord n
IsOp temps slots (AddrSlot t s) = (t < temps) × (s < slots)
IsOp temps slots (AddrFn t f) = t < temps
IsOp temps slots (LoadG t g k) = t < temps
IsOp temps slots (StoreG g a k) = a < temps
IsOp temps slots (Load k t a) = (t < temps) × (a < temps)
IsOp temps slots (Store k a b) = (a < temps) × (b < temps)
IsOp temps slots (Move a b size unit) = (a < temps) × (b < temps) × IsMoved size unit
IsOp temps slots (Call t f args) = IsResult temps t × AreArguments temps args
IsOp temps slots (CallInd t a shape args) = IsResult temps t × (a < temps) × AreArguments temps args

-- ---- functions

-- in a function with so many temporaries and blocks
abbrev pub IsEnd : ℕ → ℕ → End → Type 0
IsEnd temps blocks (end.Jump b) = b < blocks
IsEnd temps blocks (end.Branch a b c) = (a < temps) × (b < blocks) × (c < blocks)
IsEnd temps blocks (end.Return a) = IsResult temps a

pub record IsBlock (temps slots blocks : ℕ) (b : Block) : Type 0 where
  pub depth : IsWord b.depth
  pub ops : AllByRecursion (IsOp temps slots) b.ops
  pub end : IsEnd temps blocks b.end

-- what a global object takes
abbrev pub global_room : FlowGlobal → ℕ
global_room g = slot_room g.size

-- what the temporaries, of four bytes each, and the slots come to
abbrev pub rooms : ℕ → List ℕ → ℕ
rooms room [] = room
rooms room (size ∷ slots) = rooms (room + slot_room size) slots

pub record HasFewParts (f : FlowFn) : Type 0 where
  pub few_params : f.params ≤ parameter_limit
  pub params : f.params ≤ f.temps
  pub room : rooms (4 * f.temps) f.slots ≤ room_limit
  pub start : 0 < length f.blocks

pub record IsFunction (f : FlowFn) : Type 0 where
  pub few : HasFewParts f
  pub blocks : AllByRecursion (IsBlock f.temps (length f.slots) (length f.blocks)) f.blocks

-- ---- modules

abbrev pub AreDistinct : List (List ℕ) → Type 0
AreDistinct [] = Unit {0}
AreDistinct (name ∷ names) = AllByRecursion (λ other. other ≢ name) names × AreDistinct names

pub record HasDistinctNames (m : FlowModule) : Type 0 where
  pub defined : AreDistinct (global_names m ++ function_names m)
  pub declared : AreDistinct (declared_names m)

-- what a module defines and declares
pub record AreNamesLawful (m : FlowModule) : Type 0 where
  pub distinct : HasDistinctNames m
  pub start : KeepsStart (function_names m) (global_names m)

-- each object and function by itself, and what they name
pub record ArePartsLawful (m : FlowModule) : Type 0 where
  pub globals : AllByRecursion IsGlobal m.globals
  pub functions : AllByRecursion IsFunction m.functions
  pub ordinary : AllByRecursion IsOrdinary (named_in m)

pub record IsValid (m : FlowModule) : Type 0 where
  pub parts : ArePartsLawful m
  pub names : AreNamesLawful m
