-- The judgements of the rules as relations, each by the cases in which the standard lists it. The tests by which the rules
-- decide them stand with the operators; the laws say that the two are one.
use Rattle.std.specs.Prelude.{ℕ, ◌≡◌, ◌≢◌, Bool, true, false, Option, Some, List}
use Rattle.pw_types.specs.declared.kind.IntKind.{IntKind}
use Rattle.pw_types.specs.TypeTrees.{CType, Void, Int, Pointer, Array, Function, Record, QType, Qualified, QTypes, NoType, OneType, type_of, is_constant, is_volatile, RecordValue}
use Rattle.pw_types.specs.TypedTrees.{Expression, Node, type_at}
use Rattle.pw_types.specs.TypedTrees as T
use Rattle.pw_check_rules.specs.Constants.{constant_value}
use Rattle.pw_check_rules.specs.Kinds.{is_complete, is_free_of_const}
use Rattle.pw_check_rules.specs.Operands.{Operand}
use Rattle.pw_types.specs.WellTyped.{type_in, IsFunctionType}
use Rattle.pw_check_rules.specs.Linkage.{Asking, AsInternal, AsBefore, visible_linkage}
use Rattle.pw_check_rules.specs.States.{State}

-- ---- compatible types (6.1.2.6)

-- no two lengths that differ (6.5.4.2)
abbrev pub LengthsAgree : Option ℕ → Option ℕ → Type 0
LengthsAgree n m = (k l : ℕ) → n ≡ Some k → m ≡ Some l → k ≡ l

mutual
  pub data CompatibleTypes : CType → CType → Type 0 where
    VoidTypes : CompatibleTypes Void Void
    IntegerTypes : (kind : IntKind) → CompatibleTypes (Int kind) (Int kind)
    -- 6.5.4.1
    PointerTypes : (a b : QType) → Compatible a b → CompatibleTypes (Pointer a) (Pointer b)
    -- 6.5.4.2
    ArrayTypes : (a b : QType) (n m : Option ℕ) → Compatible a b → LengthsAgree n m → CompatibleTypes (Array a n) (Array b m)
    -- 6.5.4.3
    FunctionTypes : (a b : QType) (ps qs : QTypes) → Compatible a b → CompatibleParameters ps qs → CompatibleTypes (Function a ps) (Function b qs)
    -- one structure or union type is compatible with itself alone
    RecordTypes : (n : ℕ) → CompatibleTypes (Record n) (Record n)

  -- qualified alike (6.5.3)
  pub data Compatible : QType → QType → Type 0 where
    QualifiedAlike : (a b : CType) (c v : Bool) → CompatibleTypes a b → Compatible (Qualified a c v) (Qualified b c v)

  -- as many, whose own qualifiers do not count (6.5.4.3)
  pub data CompatibleParameters : QTypes → QTypes → Type 0 where
    NoParameters : CompatibleParameters NoType NoType
    OneParameter : (a b : CType) (c v d w : Bool) (ps qs : QTypes) → CompatibleTypes a b → CompatibleParameters ps qs
        → CompatibleParameters (OneType (Qualified a c v) ps) (OneType (Qualified b d w) qs)

-- ---- operands

abbrev pub IsIntegral : CType → Type 0
IsIntegral ty = (kind : IntKind) × (ty ≡ Int kind)

abbrev pub IsPointerTo : CType → QType → Type 0
IsPointerTo ty q = ty ≡ Pointer q

-- a null pointer constant (6.2.2.3): the constant 0, or it cast to `void *`
pub data NullPointerConstant (e : Expression) : Type 0 where
  Zero : constant_value e ≡ Some 0 → NullPointerConstant e
  ZeroAsVoidPointer : (t : ℕ) (c v : Bool) (a : Expression) → constant_value a ≡ Some 0
      → e ≡ Node t (Qualified (Pointer (Qualified Void false false)) c v) (T.Cast a) → NullPointerConstant e

-- a modifiable lvalue (6.2.2.1)
pub record ModifiableLvalue (records : List RecordValue) (a : Operand) : Type 0 where
  pub lvalue : a.lvalue ≡ true
  pub no_array : (q : QType) (n : Option ℕ) → type_in a.node ≢ Array q n
  pub complete : is_complete records (type_in a.node) ≡ true
  pub without_const : is_free_of_const records (type_at a.node) ≡ true

-- what the first is qualified with, the second is too
abbrev pub QualifiedWithin : QType → QType → Type 0
QualifiedWithin a b = (is_constant a ≡ true → is_constant b ≡ true) × (is_volatile a ≡ true → is_volatile b ≡ true)

-- what may be assigned to an object of a type (6.3.16.1)
pub data Assignable (to : CType) (e : Expression) : Type 0 where
  Arithmetic : IsIntegral to → IsIntegral (type_in e) → Assignable to e
  SameRecord : (n : ℕ) → to ≡ Record n → type_in e ≡ Record n → Assignable to e
  CompatiblePointers : (q r : QType) → IsPointerTo to q → IsPointerTo (type_in e) r
      → CompatibleTypes (type_of q) (type_of r) → QualifiedWithin r q → Assignable to e
  -- to a pointer to void from one to an object or incomplete type, and the other way round
  ToVoidPointer : (q r : QType) → IsPointerTo to q → IsPointerTo (type_in e) r
      → type_of q ≡ Void → (IsFunctionType (type_of r) → ⊥) → QualifiedWithin r q → Assignable to e
  FromVoidPointer : (q r : QType) → IsPointerTo to q → IsPointerTo (type_in e) r
      → type_of r ≡ Void → (IsFunctionType (type_of q) → ⊥) → QualifiedWithin r q → Assignable to e
  NullPointer : (q : QType) → IsPointerTo to q → NullPointerConstant e → Assignable to e

-- ---- linkage (6.1.2.2)

pub data InternalLinkage (s : State) (name : List ℕ) : Asking → Type 0 where
  -- `static` at file scope
  ByStatic : InternalLinkage s name AsInternal
  -- `extern`, or a function, where the visible declaration has it
  ByVisible : visible_linkage s name ≡ Some true → InternalLinkage s name AsBefore
