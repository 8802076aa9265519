-- C types as plain data (ISO C90 6.1.2.5): what the code's types hold, without where it lies in memory.
use Rattle.std.specs.Prelude.{ℕ, Bool, List, Option}
use Rattle.pw_types.specs.declared.kind.IntKind.{IntKind}
use Rattle.pw_types.specs.declared.record.RecordKind.{RecordKind}
use Rattle.pw_types.specs.declared.record.Layout.{Layout}

mutual
  -- a type without qualifiers of its own; a structure or union is its number in the module's list of records
  pub data CType : Type 0 where
    Void : CType
    Int : IntKind → CType
    Pointer : QType → CType
    -- its elements, and its length where it is known
    Array : QType → Option ℕ → CType
    -- its result and its parameters
    Function : QType → QTypes → CType
    Record : ℕ → CType

  -- a type, and whether it is `const` and `volatile` (6.5.3)
  pub data QType : Type 0 where
    Qualified : CType → Bool → Bool → QType

  pub data QTypes : Type 0 where
    NoType : QTypes
    OneType : QType → QTypes → QTypes

abbrev pub type_of : QType → CType
type_of (Qualified ty constant volatile) = ty

abbrev pub is_constant : QType → Bool
is_constant (Qualified ty constant volatile) = constant

abbrev pub is_volatile : QType → Bool
is_volatile (Qualified ty constant volatile) = volatile

-- a member of a record: its name and its type (6.5.2.1)
pub record MemberValue : Type 0 where
  pub name : List ℕ
  pub ty : QType

-- a record's definition: its members in order, and what follows from them
pub record ContentValue : Type 0 where
  pub members : List MemberValue
  pub offsets : List ℕ
  pub layout : Layout
  pub shape : List ℕ
  pub depth : ℕ

-- a structure or union type, with its content where it is defined
pub record RecordValue : Type 0 where
  pub kind : RecordKind
  pub content : Option ContentValue
