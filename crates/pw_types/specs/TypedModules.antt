-- Statements, functions, objects and modules whose expressions are well typed (ISO C90 6.5.7, 6.6, 6.7).
use Rattle.std.specs.Prelude.{ℕ, ◌≡◌, ◌≢◌, ◌<◌, ◌≤◌, ◌+◌, ◌^◌, Bool, true, false, nat_eq, Option, None, Some, List, [], ◌∷◌, ◌++◌, length, map, take, slice_get, unwrap_or, All, AllPairs, Contains}
use Rattle.std.specs.List.{IsDistinct}
use Rattle.pw_types.specs.Labels.{labels_in, cases_in}
use Rattle.pw_types.specs.Layouts.{size_of}
use Rattle.pw_types.specs.Records.{IsLaid, IsObjectType}
use Rattle.pw_types.specs.TypeTrees.{CType, Function, QType, QTypes, NoType, OneType, type_of}
use Rattle.pw_types.specs.TypedTrees as T
use Rattle.pw_types.specs.TypedTrees.{Symbol, External, Internal, Hidden, Expression, CaseValue, Initialiser, Statement, Statements, NoStatement, OneStatement, Arms, NoArm, Arm, Otherwise, NoElse, Else, LocalValue, FunctionValue, ItemValue, ItemBytes, ItemAddress, PlacedItem, GlobalValue, DeclaredValue, ModuleValue}
use Rattle.pw_types.specs.WellTyped.{IsPromoted, IsScalar, IsResult, IsKnownType, IsDeclared, IsNumber, IsTyped, IsTypedOrAbsent, IsCondition, IsConditionOrAbsent, type_in}

-- ---- initialisers of locals (6.5.7), of the locals from a place on, so many

-- The value has the local's type. The hidden object with the bytes of a list or a string has it too; the expressions that
-- it is made of are not evaluated.
abbrev pub Initialises : ModuleValue → List LocalValue → ℕ → ℕ → Initialiser → Type 0
Initialises m locals first count (T.Value k e) =
    (first ≤ k) × (k < first + count) × IsTyped m locals e
    × ((l : LocalValue) × (slice_get locals k ≡ Some l) × (type_in e ≡ type_of l.ty))
Initialises m locals first count (T.Bytes k hidden parts) =
    (first ≤ k) × (k < first + count)
    × ((l : LocalValue) × (g : GlobalValue) × (slice_get locals k ≡ Some l) × Contains m.globals g × (g.name ≡ Hidden hidden) × (type_of g.ty ≡ type_of l.ty))

-- ---- statements

-- the cases have different values, of the type of the switch, and labels that stand in its body (6.6.4.2)
pub record IsSwitch (value : CType) (cases : List CaseValue) (default : Option ℕ) (body : Statement) : Type 0 where
  pub promoted : IsPromoted value
  pub numbers : All (λ c. IsNumber value c.value) cases
  pub apart : IsDistinct nat_eq (map (λ c. c.value) cases)
  pub labels : All (λ c. Contains (labels_in body) c.label) cases
  pub default_label : (n : ℕ) → default ≡ Some n → Contains (labels_in body) n

-- What is returned has the function's result type (6.6.6.4); `return` by itself may stand in every function.
abbrev pub Returns : ModuleValue → FunctionValue → Option Expression → Type 0
Returns m f None = Unit {0}
Returns m f (Some e) =
    IsTyped m f.locals e
    × ((result : QType) × (params : QTypes) × (type_of f.ty ≡ Function result params) × IsScalar (type_of result) × (type_in e ≡ type_of result))

-- A statement of a function, in a loop or a switch that `break` can leave, in a loop that `continue` can go on with, and
-- with the locals of the blocks around it before the place `from`.
unfoldable mutual
  pub IsStatement : ModuleValue → FunctionValue → Bool → Bool → ℕ → Statement → Type 0
  IsStatement m f breaks continues from (T.Empty t) = Unit {0}
  IsStatement m f breaks continues from (T.Evaluate t e) = IsTyped m f.locals e
  IsStatement m f breaks continues from (T.Block t first count initialisers items) =
      (from ≤ first) × (first + count ≤ length f.locals)
      × All (Initialises m f.locals first count) initialisers
      × AreStatements m f breaks continues (first + count) items
  IsStatement m f breaks continues from (T.If t arms otherwise) =
      BeginsAt t arms × AreArms m f breaks continues from arms × IsElse m f breaks continues from otherwise
  IsStatement m f breaks continues from (T.While t e body) = IsCondition m f.locals e × IsStatement m f true true from body
  IsStatement m f breaks continues from (T.Do t body e) = IsCondition m f.locals e × IsStatement m f true true from body
  IsStatement m f breaks continues from (T.For t first e third body) =
      IsTypedOrAbsent m f.locals first × IsConditionOrAbsent m f.locals e × IsTypedOrAbsent m f.locals third
      × IsStatement m f true true from body
  IsStatement m f breaks continues from (T.Switch t e cases default body) =
      IsTyped m f.locals e × IsSwitch (type_in e) cases default body × IsStatement m f true continues from body
  IsStatement m f breaks continues from (T.Label t labels body) =
      (labels ≢ []) × IsStatement m f breaks continues from body
  -- 6.6.6.1 to 6.6.6.3
  IsStatement m f breaks continues from (T.Goto t n) = Contains f.named n
  IsStatement m f breaks continues from (T.Break t) = breaks ≡ true
  IsStatement m f breaks continues from (T.Continue t) = continues ≡ true
  IsStatement m f breaks continues from (T.Return t e) = Returns m f e

  pub AreStatements : ModuleValue → FunctionValue → Bool → Bool → ℕ → Statements → Type 0
  AreStatements m f breaks continues from NoStatement = Unit {0}
  AreStatements m f breaks continues from (OneStatement s rest) =
      IsStatement m f breaks continues from s × AreStatements m f breaks continues from rest

  pub AreArms : ModuleValue → FunctionValue → Bool → Bool → ℕ → Arms → Type 0
  AreArms m f breaks continues from NoArm = Unit {0}
  AreArms m f breaks continues from (Arm t e body rest) =
      IsCondition m f.locals e × IsStatement m f breaks continues from body × AreArms m f breaks continues from rest

  pub IsElse : ModuleValue → FunctionValue → Bool → Bool → ℕ → Otherwise → Type 0
  IsElse m f breaks continues from NoElse = Unit {0}
  IsElse m f breaks continues from (Else s) = IsStatement m f breaks continues from s

  -- there is an arm, and the first has the statement's token
  pub BeginsAt : ℕ → Arms → Type 0
  BeginsAt t NoArm = ⊥
  BeginsAt t (Arm u e body rest) = t ≡ u

-- ---- functions (6.7.1)

-- each parameter is a local of its type, a scalar
abbrev pub AreParameters : QTypes → List LocalValue → Type 0
AreParameters NoType [] = Unit {0}
AreParameters (OneType q rest) (l ∷ ls) = IsScalar (type_of q) × (type_of l.ty ≡ type_of q) × AreParameters rest ls
AreParameters _ _ = ⊥

-- the parameters are the first locals
pub record IsFunctionTyped (m : ModuleValue) (f : FunctionValue) : Type 0 where
  pub result : QType
  pub params : QTypes
  pub type_is : type_of f.ty ≡ Function result params
  pub gives : IsResult (type_of result)
  pub takes : AreParameters params (take f.params f.locals)
  pub count : f.params ≤ length f.locals

-- a block of which the locals stand behind the parameters
abbrev pub IsBlock : ℕ → Statement → Type 0
IsBlock params (T.Block t first count initialisers items) = first ≡ params
IsBlock params _ = ⊥

-- no label stands twice, and each is a case's or default's, or one that a goto can name (6.6.1)
pub record AreLabels (f : FunctionValue) : Type 0 where
  pub once : IsDistinct nat_eq (labels_in f.body)
  pub below : All (λ l. l < f.labels) (labels_in f.body)
  pub one_use : IsDistinct nat_eq (f.named ++ cases_in f.body)
  pub used : All (Contains (f.named ++ cases_in f.body)) (labels_in f.body)
  pub there : All (Contains (labels_in f.body)) f.named

pub record IsFunction (m : ModuleValue) (f : FunctionValue) : Type 0 where
  pub typed : IsFunctionTyped m f
  pub locals : All (λ l. IsObjectType m.records (type_of l.ty) × IsKnownType m.records (type_of l.ty)) f.locals
  pub labels : AreLabels f
  pub block : IsBlock f.params f.body
  pub body : IsStatement m f false false f.params f.body

-- ---- objects and modules (6.7.2)

-- a name that an item may have
abbrev pub IsName : ModuleValue → Symbol → Type 0
IsName m (External name) = (d : DeclaredValue) × Contains m.declared d × (d.name ≡ name)
IsName m (Internal name) = Unit {0}
IsName m (Hidden k) = (g : GlobalValue) × Contains m.globals g × (g.name ≡ Hidden k)

-- the bytes of an item; an address has four
abbrev pub item_size : ItemValue → ℕ
item_size (ItemBytes bytes) = length bytes
item_size (ItemAddress symbol offset) = 4

abbrev pub IsItem : ModuleValue → ItemValue → Type 0
IsItem m (ItemBytes bytes) = All (λ b. b < 256) bytes
IsItem m (ItemAddress symbol offset) = IsName m symbol × (offset < 2 ^ 32)

-- items one behind the other, from an offset on, in an object of so many bytes
abbrev pub AreItems : ModuleValue → ℕ → ℕ → List PlacedItem → Type 0
AreItems m from size [] = from ≤ size
AreItems m from size (p ∷ rest) = (from ≤ p.offset) × IsItem m p.item × AreItems m (p.offset + item_size p.item) size rest

-- what has an external name is declared with its type
abbrev pub IsDeclaredIfExternal : ModuleValue → Symbol → QType → Type 0
IsDeclaredIfExternal m (External name) ty = IsDeclared m name ty
IsDeclaredIfExternal m symbol ty = Unit {0}

pub record IsGlobal (m : ModuleValue) (g : GlobalValue) : Type 0 where
  pub object : IsObjectType m.records (type_of g.ty)
  pub known : IsKnownType m.records (type_of g.ty)
  pub items : AreItems m 0 (unwrap_or (size_of m.records (type_of g.ty)) 0) g.items
  pub declared : IsDeclaredIfExternal m g.name g.ty

-- a module that is well typed: each of its parts is, and no name is defined or declared twice
pub record WellTyped (m : ModuleValue) : Type 0 where
  pub laid : IsLaid m.records
  pub known : All (λ d. IsKnownType m.records (type_of d.ty)) m.declared
  pub globals : All (IsGlobal m) m.globals
  pub functions : All (IsFunction m) m.functions
  pub external : All (λ f. IsDeclaredIfExternal m f.name f.ty) m.functions
  pub one_global : AllPairs (λ g h. g.name ≢ h.name) m.globals
  pub one_function : AllPairs (λ f g. f.name ≢ g.name) m.functions
  pub one_kind : All (λ g. All (λ f. g.name ≢ f.name) m.functions) m.globals
  pub one_declared : AllPairs (λ d e. d.name ≢ e.name) m.declared
