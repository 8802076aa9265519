-- What checking keeps of a module beside its types: names are of letters, no part of an object's bytes is empty, and
-- sizes, arguments, parameters and rooms keep their limits.
use Rattle.std.specs.Prelude.{ℕ, ◌≡◌, ◌<◌, ◌≤◌, ◌^◌, ◌⊎◌, Option, None, Some, List, All}
use Rattle.std.specs.List.{AllByRecursion}
use Rattle.pw_value.specs.Limits.{parameter_limit, room_limit}
use Rattle.pw_types.specs.Layouts.{content_at}
use Rattle.pw_types.specs.Rooms.{room_of}
use Rattle.pw_types.specs.Sizes.{oversize_of}
use Rattle.pw_types.specs.TypeTrees.{CType, Record, type_of, ContentValue, RecordValue}
use Rattle.pw_types.specs.TypedModules.{item_size}
use Rattle.pw_types.specs.TypedTrees.{Symbol, External, Internal, Hidden, Expression, Node, Form, Unary, Binary, Logic, Cond, Comma, Assign, Compound, Step, Cast, Decay, Member, Deref, Address, Call, CallValue, Expressions, NoExpression, OneExpression, Initialiser, Value, Bytes, Statement, Arms, Otherwise, Statements, FunctionValue, GlobalValue, ModuleValue}
use Rattle.pw_flow.specs.ValidFlow.{IsMoved}
use Rattle.pw_lower.specs.Operators.{bytes_of, unit_of}
use Rattle.pw_law_lower.specs.Parts.{partless}
pub use Rattle.pw_law_lower_walk.specs.Parts.{count_of}
use Rattle.pw_law_lower_walk.specs.Parts.{IfAny}
use Rattle.pw_law_lower_walk.specs.Folds.{InStatement, InStatements, InArms, InOtherwise}

-- ---- names

-- a digit, a letter or an underscore (C90 6.1.2)
abbrev pub IsLetter : ℕ → Type 0
IsLetter b = ((48 ≤ b) × (b ≤ 57)) ⊎ ((65 ≤ b) × (b ≤ 90)) ⊎ (b ≡ 95) ⊎ ((97 ≤ b) × (b ≤ 122))

-- the bytes of names, whichever of them is first: an identifier is more, it begins with no digit and is no keyword
abbrev pub AreLetters : List ℕ → Type 0
AreLetters name = AllByRecursion IsLetter name

-- a name that a text can give, or the number of a hidden object
abbrev pub IsNamed : Symbol → Type 0
IsNamed (External name) = AreLetters name
IsNamed (Internal name) = AreLetters name
IsNamed (Hidden k) = k < 2 ^ 32

-- ---- types

-- an object of the type has a positive number of units of its alignment, 1, 2 or 4, and keeps the limit on sizes
abbrev pub IsCopied : List RecordValue → CType → Type 0
IsCopied records ty = IsMoved (bytes_of records ty) (unit_of records ty)

-- a structure or union type that is defined
pub record IsRecordWithin (records : List RecordValue) (number : ℕ) (c : ContentValue) : Type 0 where
  pub copied : IsCopied records (Record number)
  pub offsets : All (λ o. o < 2 ^ 32) c.offsets

abbrev pub AreRecordsWithin : List RecordValue → Type 0
AreRecordsWithin records = (number : ℕ) (c : ContentValue) → content_at records number ≡ Some c → IsRecordWithin records number c

-- the type, and each that it is made of, keeps the limit on sizes
abbrev pub IsSized : List RecordValue → CType → Type 0
IsSized records ty = oversize_of records ty ≡ None

-- ---- expressions and statements: their types keep the limit on sizes, and their calls that on arguments

abbrev mutual
  pub IsSmall : List RecordValue → Expression → Type 0
  IsSmall records (Node t y form) = IsSized records (type_of y) × HasSmall records form

  pub HasSmall : List RecordValue → Form → Type 0
  HasSmall records (Unary o a) = IsSmall records a
  HasSmall records (Binary o a b) = IsSmall records a × IsSmall records b
  HasSmall records (Logic o a b) = IsSmall records a × IsSmall records b
  HasSmall records (Cond a b c) = IsSmall records a × IsSmall records b × IsSmall records c
  HasSmall records (Comma a b) = IsSmall records a × IsSmall records b
  HasSmall records (Assign a b) = IsSmall records a × IsSmall records b
  HasSmall records (Compound o work a b) = IsSmall records a × IsSmall records b × IsSized records work
  HasSmall records (Step o a) = IsSmall records a
  HasSmall records (Cast a) = IsSmall records a
  HasSmall records (Decay a) = IsSmall records a
  HasSmall records (Member a offset) = IsSmall records a
  HasSmall records (Deref a) = IsSmall records a
  HasSmall records (Address a) = IsSmall records a
  HasSmall records (Call s args) = (count_of args ≤ parameter_limit) × AreSmall records args
  HasSmall records (CallValue a args) = (count_of args ≤ parameter_limit) × IsSmall records a × AreSmall records args
  HasSmall records _ = Unit {0}

  pub AreSmall : List RecordValue → Expressions → Type 0
  AreSmall records NoExpression = Unit {0}
  AreSmall records (OneExpression e rest) = IsSmall records e × AreSmall records rest

abbrev pub IsSmallOrAbsent : List RecordValue → Option Expression → Type 0
IsSmallOrAbsent records e = IfAny (IsSmall records) e

abbrev pub IsSmallIn : List RecordValue → Initialiser → Type 0
IsSmallIn records (Value k e) = IsSmall records e
IsSmallIn records (Bytes k hidden parts) = Unit {0}

abbrev pub KeepsLimits : List RecordValue → Statement → Type 0
KeepsLimits records s = InStatement (IsSmall records) (IsSmallIn records) s

abbrev pub KeepLimits : List RecordValue → Statements → Type 0
KeepLimits records all = InStatements (IsSmall records) (IsSmallIn records) all

abbrev pub ArmsKeepLimits : List RecordValue → Arms → Type 0
ArmsKeepLimits records arms = InArms (IsSmall records) (IsSmallIn records) arms

abbrev pub ElseKeepsLimits : List RecordValue → Otherwise → Type 0
ElseKeepsLimits records o = InOtherwise (IsSmall records) (IsSmallIn records) o

-- ---- objects, functions, modules

pub record IsObjectWithin (g : GlobalValue) : Type 0 where
  pub name : IsNamed g.name
  pub items : All (λ p. 0 < item_size p.item) g.items

pub record IsFunctionWithin (m : ModuleValue) (f : FunctionValue) : Type 0 where
  pub name : IsNamed f.name
  pub params : f.params ≤ parameter_limit
  pub locals : All (λ l. IsCopied m.records (type_of l.ty)) f.locals
  pub body : KeepsLimits m.records f.body
  pub parts : partless f.body ≡ 0
  pub room : room_of m.records f ≤ room_limit

pub record IsWithin (m : ModuleValue) : Type 0 where
  pub records : AreRecordsWithin m.records
  pub declared : All (λ d. AreLetters d.name) m.declared
  pub globals : All IsObjectWithin m.globals
  pub functions : All (IsFunctionWithin m) m.functions
