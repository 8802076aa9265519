-- What typed trees that checking accepts keep: the constraints of ISO C90 6.3, 6.5.7, 6.6 and 6.7 that the meaning and
-- lowering rest on. Each implicit conversion is a node, so operands that C converts to one type have one type here.
-- `operand`, `result`, .. are types without the qualifiers of their own.
use Rattle.std.specs.Prelude.{ℕ, ◌≡◌, ◌<◌, ◌^◌, ◌⊎◌, ◌||◌, Bool, false, Option, None, Some, IsSome, List, length, slice_get, Contains}
use Rattle.pw_value.specs.declared.value.Value.TheVariants.{Num}
use Rattle.pw_value.specs.Shapes.{Agree}
use Rattle.pw_types.specs.Conversions.{promoted, usual_of, converted}
use Rattle.pw_types.specs.declared.kind.IntKind.TheVariants as K
use Rattle.pw_types.specs.declared.tree.BinaryOperator.{BinaryOperator}
use Rattle.pw_types.specs.declared.tree.BinaryOperator.TheVariants as B
use Rattle.pw_types.specs.declared.tree.UnaryOperator.{UnaryOperator}
use Rattle.pw_types.specs.declared.tree.UnaryOperator.TheVariants as U
use Rattle.pw_types.specs.Layouts.{content_at, layout_of}
use Rattle.pw_types.specs.Shapes.{shape_of}
use Rattle.pw_types.specs.TypeTrees.{CType, Void, Int, Pointer, Array, Function, Record, QType, Qualified, QTypes, NoType, OneType, type_of, is_constant, is_volatile, MemberValue, ContentValue, RecordValue}
use Rattle.pw_types.specs.TypedTrees as T
use Rattle.pw_types.specs.TypedTrees.{Symbol, External, Internal, Hidden, Expression, Node, Form, Expressions, NoExpression, OneExpression, type_at, form_of, CaseValue, Initialiser, Statement, Statements, NoStatement, OneStatement, Arms, NoArm, Arm, Otherwise, NoElse, Else, LocalValue, FunctionValue, ItemValue, ItemBytes, ItemAddress, PlacedItem, GlobalValue, DeclaredValue, ModuleValue}

-- ---- types (6.1.2.5)

abbrev pub type_in : Expression → CType
type_in e = type_of (type_at e)

abbrev int : CType
int = Int K.Int

abbrev pub IsArithmetic : CType → Type 0
IsArithmetic (Int kind) = Unit {0}
IsArithmetic _ = ⊥

-- an arithmetic type as the integral promotions leave it (6.2.1.1)
abbrev pub IsPromoted : CType → Type 0
IsPromoted (Int kind) = promoted kind ≡ kind
IsPromoted _ = ⊥

-- what the integral promotions make of a type (6.2.1.1)
abbrev pub promoted_type : CType → CType
promoted_type (Int kind) = Int (promoted kind)
promoted_type ty = ty

abbrev pub IsPointer : CType → Type 0
IsPointer ty = (q : QType) × (ty ≡ Pointer q)

abbrev pub IsScalar : CType → Type 0
IsScalar (Int kind) = Unit {0}
IsScalar (Pointer target) = Unit {0}
IsScalar _ = ⊥

-- a type with a size
abbrev pub IsComplete : List RecordValue → CType → Type 0
IsComplete records ty = IsSome (layout_of records ty)

-- a pointer to an object type
abbrev pub PointsToObject : List RecordValue → CType → Type 0
PointsToObject records ty = (q : QType) × (ty ≡ Pointer q) × IsComplete records (type_of q)

-- the result of a function: structures and unions are not passed by value
abbrev pub IsResult : CType → Type 0
IsResult ty = (ty ≡ Void) ⊎ IsScalar ty

-- the records that it names are the module's
abbrev mutual
  pub IsKnownType : List RecordValue → CType → Type 0
  IsKnownType records Void = Unit {0}
  IsKnownType records (Int kind) = Unit {0}
  IsKnownType records (Pointer (Qualified ty c v)) = IsKnownType records ty
  IsKnownType records (Array (Qualified ty c v) count) = IsKnownType records ty
  IsKnownType records (Function (Qualified ty c v) params) = IsKnownType records ty × AreKnownTypes records params
  IsKnownType records (Record number) = number < length records

  pub AreKnownTypes : List RecordValue → QTypes → Type 0
  AreKnownTypes records NoType = Unit {0}
  AreKnownTypes records (OneType (Qualified ty c v) rest) = IsKnownType records ty × AreKnownTypes records rest

-- a type with qualifiers more; an array's are those of its elements (6.5.3)
abbrev pub so_qualified : Bool → Bool → QType → QType
so_qualified constant volatile (Qualified (Array q count) c v) = Qualified (Array (so_qualified constant volatile q) count) c v
so_qualified constant volatile (Qualified ty c v) = Qualified ty (c || constant) (v || volatile)

-- ---- operators, by the types of their operands and of the result

-- 6.3.3.3
abbrev pub FitsUnary : UnaryOperator → CType → CType → Type 0
FitsUnary U.Not operand result = IsScalar operand × (result ≡ int)
FitsUnary _ operand result = IsPromoted operand × (result ≡ operand)

-- both numbers in the type that they have in common (6.2.1.5), which is the result's (6.3.5, 6.3.6, 6.3.10 to 6.3.12)
abbrev pub AreNumbers : CType → CType → CType → Type 0
AreNumbers left right result = IsPromoted result × (left ≡ result) × (right ≡ result)

-- a pointer to an object and a number (6.3.6)
abbrev pub MovesPointer : List RecordValue → CType → CType → CType → Type 0
MovesPointer records pointer number result = PointsToObject records pointer × IsArithmetic number × (result ≡ pointer)

-- the distance of two pointers to objects (6.3.6)
abbrev pub AreApart : List RecordValue → CType → CType → CType → Type 0
AreApart records left right result = PointsToObject records left × PointsToObject records right × (result ≡ int)

-- each operand promoted by itself (6.3.7)
abbrev pub AreShifted : CType → CType → CType → Type 0
AreShifted left right result = IsPromoted left × IsPromoted right × (result ≡ left)

-- numbers, or pointers, of one type (6.3.8, 6.3.9)
abbrev pub AreCompared : CType → CType → CType → Type 0
AreCompared left right result = (IsPromoted left ⊎ IsPointer left) × (right ≡ left) × (result ≡ int)

abbrev pub FitsBinary : List RecordValue → BinaryOperator → CType → CType → CType → Type 0
FitsBinary records B.Add left right result =
    AreNumbers left right result ⊎ MovesPointer records left right result ⊎ MovesPointer records right left result
FitsBinary records B.Subtract left right result =
    AreNumbers left right result ⊎ MovesPointer records left right result ⊎ AreApart records left right result
FitsBinary records B.ShiftLeft left right result = AreShifted left right result
FitsBinary records B.ShiftRight left right result = AreShifted left right result
FitsBinary records B.Less left right result = AreCompared left right result
FitsBinary records B.Greater left right result = AreCompared left right result
FitsBinary records B.LessEqual left right result = AreCompared left right result
FitsBinary records B.GreaterEqual left right result = AreCompared left right result
FitsBinary records B.Equal left right result = AreCompared left right result
FitsBinary records B.NotEqual left right result = AreCompared left right result
FitsBinary records _ left right result = AreNumbers left right result

-- a compound assignment (6.3.16.2), by the type in which it works: that which its operands have in common, ..
abbrev pub WorksInCommon : CType → CType → CType → Type 0
WorksInCommon (Int working) (Int left) right = (usual_of left working ≡ working) × IsPromoted (Int working) × (right ≡ Int working)
WorksInCommon _ _ right = ⊥

-- .. of a shift that of the left one promoted
abbrev pub WorksPromoted : CType → CType → CType → Type 0
WorksPromoted working (Int left) right = (working ≡ Int (promoted left)) × IsPromoted right
WorksPromoted working _ right = ⊥

abbrev pub FitsCompound : List RecordValue → BinaryOperator → CType → CType → CType → Type 0
FitsCompound records B.Add working left right = WorksInCommon working left right ⊎ MovesPointer records left right working
FitsCompound records B.Subtract working left right = WorksInCommon working left right ⊎ MovesPointer records left right working
FitsCompound records B.ShiftLeft working left right = WorksPromoted working left right
FitsCompound records B.ShiftRight working left right = WorksPromoted working left right
FitsCompound records B.Less working left right = ⊥
FitsCompound records B.Greater working left right = ⊥
FitsCompound records B.LessEqual working left right = ⊥
FitsCompound records B.GreaterEqual working left right = ⊥
FitsCompound records B.Equal working left right = ⊥
FitsCompound records B.NotEqual working left right = ⊥
FitsCompound records _ working left right = WorksInCommon working left right

-- 6.3.4; of a number only the constant 0 becomes a pointer
abbrev pub FitsCast : CType → CType → Type 0
FitsCast operand Void = Unit {0}
FitsCast operand (Int kind) = IsArithmetic operand
FitsCast operand (Pointer target) = IsScalar operand
FitsCast operand _ = ⊥

-- ---- lvalues (6.2.2.1)

-- the forms of lvalues; a member is one where its structure or union is (6.3.2.3)
abbrev mutual
  pub IsLvalueForm : Form → Type 0
  IsLvalueForm (T.Str k) = Unit {0}
  IsLvalueForm (T.Local k) = Unit {0}
  IsLvalueForm (T.Global s) = Unit {0}
  IsLvalueForm (T.Deref a) = Unit {0}
  IsLvalueForm (T.Member a offset) = IsLvalue a
  IsLvalueForm _ = ⊥

  pub IsLvalue : Expression → Type 0
  IsLvalue (Node t y form) = IsLvalueForm form

-- what can be assigned to: no array, complete and not const
pub record IsModifiable (records : List RecordValue) (e : Expression) : Type 0 where
  pub lvalue : IsLvalue e
  pub assigned : IsScalar (type_in e) ⊎ ((number : ℕ) × (type_in e ≡ Record number))
  pub complete : IsComplete records (type_in e)
  pub changing : is_constant (type_at e) ≡ false

-- a function designator
abbrev pub IsDesignator : Form → Type 0
IsDesignator (T.Function s) = Unit {0}
IsDesignator (T.Deref a) = Unit {0}
IsDesignator _ = ⊥

abbrev pub IsFunctionType : CType → Type 0
IsFunctionType ty = (result : QType) × (params : QTypes) × (ty ≡ Function result params)

-- the pointer that an array or a function becomes
abbrev pub Decays : Expression → CType → Type 0
Decays e result =
    (IsLvalue e × ((q : QType) × (count : Option ℕ) × (type_in e ≡ Array q count) × (result ≡ Pointer q)))
    ⊎ (IsDesignator (form_of e) × IsFunctionType (type_in e) × (result ≡ Pointer (type_at e)))

-- what has an address (6.3.3.2)
abbrev pub IsAddressed : Expression → Type 0
IsAddressed e = IsLvalue e ⊎ (IsDesignator (form_of e) × IsFunctionType (type_in e))

-- a member of a record that is defined, with its offset; it has the record's qualifiers too (6.3.2.3)
pub record IsMember (records : List RecordValue) (of ty : QType) (offset : ℕ) : Type 0 where
  pub number : ℕ
  pub content : ContentValue
  pub place : ℕ
  pub member : MemberValue
  pub type_is : type_of of ≡ Record number
  pub defined : content_at records number ≡ Some content
  pub there : slice_get content.members place ≡ Some member
  pub offset_is : slice_get content.offsets place ≡ Some offset
  pub qualified : ty ≡ so_qualified (is_constant of) (is_volatile of) member.ty

-- ---- names

-- two types of one object or function in one module (6.1.2.6), as far as their shapes tell
abbrev pub AgreeInShape : List RecordValue → QType → QType → Type 0
AgreeInShape records a b =
    Agree (shape_of records (type_of a) (is_volatile a)) (shape_of records (type_of b) (is_volatile b))

pub record IsDeclared (m : ModuleValue) (name : List ℕ) (ty : QType) : Type 0 where
  pub entry : DeclaredValue
  pub there : Contains m.declared entry
  pub name_is : entry.name ≡ name
  pub agrees : AgreeInShape m.records entry.ty ty

pub record IsDefined (m : ModuleValue) (symbol : Symbol) (ty : QType) : Type 0 where
  pub object : GlobalValue
  pub there : Contains m.globals object
  pub name_is : object.name ≡ symbol
  pub agrees : AgreeInShape m.records object.ty ty

-- an object of this type has the name
abbrev pub IsObject : ModuleValue → Symbol → QType → Type 0
IsObject m (External name) ty = IsDeclared m name ty
IsObject m symbol ty = IsDefined m symbol ty

-- A function of this type has the name. One of the module's own may be defined nowhere, which linking refuses.
abbrev pub IsFunctionOf : ModuleValue → Symbol → QType → Type 0
IsFunctionOf m (External name) ty = IsDeclared m name ty
IsFunctionOf m (Internal name) ty = (f : FunctionValue) → Contains m.functions f → f.name ≡ Internal name → AgreeInShape m.records f.ty ty
IsFunctionOf m (Hidden k) ty = ⊥

-- the hidden object of a string literal, an array of char (6.1.4)
abbrev pub IsString : ModuleValue → ℕ → QType → Type 0
IsString m k ty = IsDefined m (Hidden k) ty × ((c : Bool) × (v : Bool) × (count : ℕ) × (type_of ty ≡ Array (Qualified (Int K.Char) c v) (Some count)))

-- a value of the type, as a word
abbrev pub IsNumber : CType → ℕ → Type 0
IsNumber (Int kind) n = (n < 2 ^ 32) × (converted (Num n) kind ≡ Num n)
IsNumber _ n = ⊥

-- ---- expressions, in a module and among a function's locals

unfoldable mutual
  pub IsTyped : ModuleValue → List LocalValue → Expression → Type 0
  IsTyped m locals (Node t y form) = IsKnownType m.records (type_of y) × HasForm m locals y form

  pub HasForm : ModuleValue → List LocalValue → QType → Form → Type 0
  HasForm m locals y (T.Number n) = IsNumber (type_of y) n
  HasForm m locals y (T.Str k) = IsString m k y
  HasForm m locals y (T.Local k) = (l : LocalValue) × (slice_get locals k ≡ Some l) × (l.ty ≡ y)
  HasForm m locals y (T.Global symbol) = IsObject m symbol y
  HasForm m locals y (T.Function symbol) = IsFunctionType (type_of y) × IsFunctionOf m symbol y
  HasForm m locals y (T.Unary op a) = IsTyped m locals a × FitsUnary op (type_in a) (type_of y)
  HasForm m locals y (T.Binary op a b) =
      IsTyped m locals a × IsTyped m locals b × FitsBinary m.records op (type_in a) (type_in b) (type_of y)
  -- 6.3.13, 6.3.14
  HasForm m locals y (T.Logic op a b) =
      IsTyped m locals a × IsTyped m locals b × IsScalar (type_in a) × IsScalar (type_in b) × (type_of y ≡ int)
  -- 6.3.15
  HasForm m locals y (T.Cond c a b) =
      IsTyped m locals c × IsTyped m locals a × IsTyped m locals b
      × IsScalar (type_in c) × (type_in a ≡ type_of y) × (type_in b ≡ type_of y)
  -- 6.3.17
  HasForm m locals y (T.Comma a b) = IsTyped m locals a × IsTyped m locals b × (type_in b ≡ type_of y)
  -- 6.3.16.1
  HasForm m locals y (T.Assign a b) =
      IsTyped m locals a × IsTyped m locals b
      × IsModifiable m.records a × (type_in a ≡ type_of y) × (type_in b ≡ type_of y)
  HasForm m locals y (T.Compound op working a b) =
      IsTyped m locals a × IsTyped m locals b
      × IsModifiable m.records a × (type_in a ≡ type_of y) × FitsCompound m.records op working (type_in a) (type_in b)
  -- 6.3.2.4, 6.3.3.1
  HasForm m locals y (T.Step op a) =
      IsTyped m locals a
      × IsModifiable m.records a × (type_in a ≡ type_of y) × (IsArithmetic (type_in a) ⊎ PointsToObject m.records (type_in a))
  HasForm m locals y (T.Cast a) = IsTyped m locals a × FitsCast (type_in a) (type_of y)
  HasForm m locals y (T.Decay a) = IsTyped m locals a × Decays a (type_of y)
  HasForm m locals y (T.Member a offset) = IsTyped m locals a × IsMember m.records (type_at a) y offset
  -- 6.3.3.2
  HasForm m locals y (T.Deref a) = IsTyped m locals a × (type_in a ≡ Pointer y)
  HasForm m locals y (T.Address a) = IsTyped m locals a × IsAddressed a × (type_of y ≡ Pointer (type_at a))
  -- 6.3.2.2; a call by name is one of a function that has the type of the call
  HasForm m locals y (T.Call symbol args) =
      (result : QType) × (params : QTypes)
      × IsFunctionOf m symbol (Qualified (Function result params) false false)
      × IsResult (type_of result) × (type_of y ≡ type_of result) × AreArguments m locals args params
  HasForm m locals y (T.CallValue a args) =
      IsTyped m locals a
      × ((result : QType) × (params : QTypes) × (c : Bool) × (v : Bool)
      × (type_in a ≡ Pointer (Qualified (Function result params) c v))
      × IsResult (type_of result) × (type_of y ≡ type_of result) × AreArguments m locals args params)

  -- as many as the parameters, each of its parameter's type
  pub AreArguments : ModuleValue → List LocalValue → Expressions → QTypes → Type 0
  AreArguments m locals NoExpression NoType = Unit {0}
  AreArguments m locals (OneExpression e es) (OneType q rest) =
      IsTyped m locals e × IsScalar (type_of q) × (type_in e ≡ type_of q) × AreArguments m locals es rest
  AreArguments m locals NoExpression (OneType q rest) = ⊥
  AreArguments m locals (OneExpression e es) NoType = ⊥

abbrev pub IsTypedOrAbsent : ModuleValue → List LocalValue → Option Expression → Type 0
IsTypedOrAbsent m locals None = Unit {0}
IsTypedOrAbsent m locals (Some e) = IsTyped m locals e

-- a condition (6.6.4.1, 6.6.5)
abbrev pub IsCondition : ModuleValue → List LocalValue → Expression → Type 0
IsCondition m locals e = IsTyped m locals e × IsScalar (type_in e)

abbrev pub IsConditionOrAbsent : ModuleValue → List LocalValue → Option Expression → Type 0
IsConditionOrAbsent m locals None = Unit {0}
IsConditionOrAbsent m locals (Some e) = IsCondition m locals e
