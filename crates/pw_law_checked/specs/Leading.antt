-- Where the addresses in the first bytes of a module's objects lead.
use Rattle.std.specs.Prelude.{ℕ, ◌≡◌, ◌≤◌, ◌⊎◌, true, Some, List, slice_get, Contains}
use Rattle.pw_value.specs.Limits.{size_limit}
use Rattle.pw_types.specs.declared.record.Layout.{Layout}
use Rattle.pw_types.specs.Layouts.{layout_of, size_of}
use Rattle.pw_types.specs.TypeTrees.{QType, type_of, RecordValue}
use Rattle.pw_types.specs.TypedTrees.{Symbol, External, Internal, Hidden, ItemValue, ItemBytes, ItemAddress, PlacedItem, GlobalValue, DeclaredValue, ModuleValue}
use Rattle.pw_check_rules.specs.Constants.{is_within}

-- an offset in what has the type, or directly behind it; 0 where the size is not known, as of a function
abbrev pub IsInside : List RecordValue → QType → ℕ → Type 0
IsInside records q offset = is_within offset (size_of records (type_of q)) ≡ true

-- into an object of the module's own
pub record LeadsIntoOwn (m : ModuleValue) (symbol : Symbol) (offset : ℕ) : Type 0 where
  pub object : GlobalValue
  pub there : Contains m.globals object
  pub name_is : object.name ≡ symbol
  pub inside : IsInside m.records object.ty offset

-- into what all modules share, by the type with which the module declares it, which keeps the limit on sizes; ..
pub record LeadsIntoShared (m : ModuleValue) (name : List ℕ) (offset : ℕ) : Type 0 where
  pub entry : DeclaredValue
  pub there : Contains m.declared entry
  pub name_is : entry.name ≡ name
  pub within : (l : Layout) → layout_of m.records (type_of entry.ty) ≡ Some l → l.size ≤ size_limit
  pub inside : IsInside m.records entry.ty offset

-- .. what is the module's own and no object is a function, to whose address nothing is added
abbrev pub Leads : ModuleValue → Symbol → ℕ → Type 0
Leads m (External name) offset = LeadsIntoShared m name offset
Leads m (Internal name) offset = (offset ≡ 0) ⊎ LeadsIntoOwn m (Internal name) offset
Leads m (Hidden k) offset = LeadsIntoOwn m (Hidden k) offset

abbrev pub ItemLeads : ModuleValue → ItemValue → Type 0
ItemLeads m (ItemBytes bytes) = Unit {0}
ItemLeads m (ItemAddress symbol offset) = Leads m symbol offset

abbrev pub ItemsLead : ModuleValue → GlobalValue → Type 0
ItemsLead m g = (i : ℕ) (p : PlacedItem) → slice_get g.items i ≡ Some p → ItemLeads m p.item

-- an object that all modules share has the size of the type with which its own declares it
pub record HasDeclaredSize (m : ModuleValue) (name : List ℕ) (ty : QType) : Type 0 where
  pub entry : DeclaredValue
  pub there : Contains m.declared entry
  pub name_is : entry.name ≡ name
  pub size : size_of m.records (type_of entry.ty) ≡ size_of m.records (type_of ty)

abbrev pub IsDeclaredWhole : ModuleValue → GlobalValue → Type 0
IsDeclaredWhole m g = (name : List ℕ) → g.name ≡ External name → HasDeclaredSize m name g.ty
