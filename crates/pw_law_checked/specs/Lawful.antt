-- What the state of checking keeps on the way through a module: each type that is known is lawful, and the names in it stand for
-- what there is. And when a module and a function's locals are what the names of a state stand for.
use Rattle.std.specs.Prelude.{ℕ, ◌≡◌, ◌<◌, ◌≤◌, ◌^◌, Bool, true, Some, List, length, slice_get}
use Rattle.pw_types.specs.Layouts.{content_at}
use Rattle.pw_types.specs.Records.{IsLaid}
use Rattle.pw_types.specs.TypeTrees.{CType, Void, Int, Pointer, Array, Function, Record, QType, Qualified, QTypes, NoType, OneType, type_of, MemberValue, ContentValue, RecordValue}
use Rattle.pw_types.specs.TypedTrees.{Symbol, Hidden, LocalValue, ModuleValue, Expression, Form, Expressions}
use Rattle.pw_types.specs.TypedTrees as T
use Rattle.pw_types.specs.WellTyped.{IsScalar, IsComplete, IsResult, IsFunctionType, IsObject, IsFunctionOf, IsDefined}
use Rattle.pw_law_lower_walk.specs.Folds.{OverNodes, OverParts, OverArguments}
use Rattle.pw_check_rules.specs.Linkage.{symbol_at}
use Rattle.pw_check_rules.specs.States.{State, LinkedName, Entity, TypeName, EnumerationConstant, LocalObject, StaticObject, Linked, HiddenObject}
use Rattle.pw_check_rules.specs.declared.names.Entry.{Entry}
use Rattle.pw_check_rules.specs.declared.names.Tag.{Tag}
use Rattle.pw_check_rules.specs.declared.names.Tag.TheVariants as G
use Rattle.pw_check_rules.specs.declared.names.TagEntry.{TagEntry}

-- ---- types

-- The records that it names are there, the elements of its arrays are complete (6.5.4.2), and its functions give and take no
-- arrays, functions, structures or unions (6.5.4.3).
abbrev mutual
  pub IsLawfulType : List RecordValue → CType → Type 0
  IsLawfulType records Void = Unit {0}
  IsLawfulType records (Int kind) = Unit {0}
  IsLawfulType records (Pointer (Qualified ty c v)) = IsLawfulType records ty
  IsLawfulType records (Array (Qualified ty c v) count) = IsLawfulType records ty × IsComplete records ty
  IsLawfulType records (Function (Qualified ty c v) params) =
      IsLawfulType records ty × IsResult ty × AreLawfulTypes records params
  IsLawfulType records (Record number) = number < length records

  pub AreLawfulTypes : List RecordValue → QTypes → Type 0
  AreLawfulTypes records NoType = Unit {0}
  AreLawfulTypes records (OneType (Qualified ty c v) rest) = IsLawfulType records ty × IsScalar ty × AreLawfulTypes records rest

-- a type of an object: no function
pub record IsObjectLike (records : List RecordValue) (q : QType) : Type 0 where
  pub lawful : IsLawfulType records (type_of q)
  pub object : IsFunctionType (type_of q) → ⊥

-- the members of a record that is defined
abbrev pub HasLawfulMembers : List RecordValue → ContentValue → Type 0
HasLawfulMembers records c = (i : ℕ) (m : MemberValue) → slice_get c.members i ≡ Some m → IsObjectLike records m.ty

-- ---- names

abbrev pub IsLawfulEntity : List RecordValue → Entity → Type 0
IsLawfulEntity records (TypeName q) = IsLawfulType records (type_of q)
IsLawfulEntity records (EnumerationConstant n) = Unit {0}
IsLawfulEntity records (LocalObject k q register) = IsObjectLike records q
IsLawfulEntity records (StaticObject k q) = IsObjectLike records q
IsLawfulEntity records (Linked place q) = IsLawfulType records (type_of q)

abbrev pub IsLawfulTag : List RecordValue → Tag → Type 0
IsLawfulTag records (G.Record n) = n < length records
IsLawfulTag records G.Enumeration = Unit {0}

-- ---- states

pub record IsLawful (s : State) : Type 0 where
  -- a record that is defined was begun, and its members are lawful
  pub contents : (n : ℕ) (c : ContentValue) → content_at s.types.records n ≡ Some c → HasLawfulMembers s.types.records c
  pub begun : (n : ℕ) (c : ContentValue) → content_at s.types.records n ≡ Some c → slice_get s.types.opened n ≡ Some true
  pub counted : length s.types.opened ≡ length s.types.records
  pub entities : (k : ℕ) (e : Entity) → slice_get s.scopes.entities k ≡ Some e → IsLawfulEntity s.types.records e
  pub tags : (i : ℕ) (t : List ℕ × TagEntry) → slice_get s.scopes.tags i ≡ Some t → IsLawfulTag s.types.records t.1.tag
  pub linked : (i : ℕ) (l : LinkedName) → slice_get s.types.linked i ≡ Some l → IsLawfulType s.types.records (type_of l.ty)
  -- no name has two places among those with linkage
  pub apart : (i j : ℕ) (x y : LinkedName) → slice_get s.types.linked i ≡ Some x → slice_get s.types.linked j ≡ Some y → x.name ≡ y.name → i ≡ j
  -- each record that is defined follows from its members
  pub laid : IsLaid s.types.records
  pub depths : (i : ℕ) (e : List ℕ × Entry) → slice_get s.scopes.ordinary i ≡ Some e → e.1.depth ≤ s.scopes.depth

-- ---- what names stand for

-- what one list of records defines, a longer one defines so too
pub record Extends (before after : List RecordValue) : Type 0 where
  pub longer : length before ≤ length after
  pub kept : (n : ℕ) (c : ContentValue) → content_at before n ≡ Some c → content_at after n ≡ Some c

-- an object or a function of the type has the name
abbrev pub IsNamed : ModuleValue → Symbol → QType → Type 0
IsNamed m symbol (Qualified (Function result params) c v) = IsFunctionOf m symbol (Qualified (Function result params) c v)
IsNamed m symbol q = IsObject m symbol q

abbrev pub StandsFor : State → ModuleValue → Entity → Type 0
StandsFor s m (StaticObject k q) = IsDefined m (Hidden k) q
StandsFor s m (Linked place q) = IsNamed m (symbol_at s place) q
StandsFor s m _ = Unit {0}

-- the local at the place has the type
abbrev pub HasLocal : List LocalValue → ℕ → QType → Type 0
HasLocal locals k q = (l : LocalValue) × (slice_get locals k ≡ Some l) × (l.ty ≡ q)

-- The names of the state stand for what the module has, and those of parameters and locals in scope for the locals. Strings
-- are objects of it, so the state is in no operand of `sizeof`.
pub record Denotes (s : State) (m : ModuleValue) (locals : List LocalValue) : Type 0 where
  pub counting : s.made.counting ≡ true
  pub records : Extends s.types.records m.records
  pub strings : (k : ℕ) (h : HiddenObject) → slice_get s.made.hidden k ≡ Some h → IsDefined m (Hidden k) h.ty
  pub entities : (k : ℕ) (e : Entity) → slice_get s.scopes.entities k ≡ Some e → StandsFor s m e
  pub locals_are : (i : ℕ) (e : List ℕ × Entry) (k : ℕ) (q : QType) (register : Bool) → slice_get s.scopes.ordinary i ≡ Some e
      → slice_get s.scopes.entities e.1.place ≡ Some (LocalObject k q register) → HasLocal locals k q

-- ---- numbers of a typed tree

-- a number is one of 32 bits; of every other node its parts are asked
abbrev pub IsWordAt : Form → Type 0 → Type 0
IsWordAt (T.Number n) rest = n < 2 ^ 32
IsWordAt form rest = rest

abbrev pub HasWordAt : QType → Form → Type 0 → Type 0
HasWordAt y form rest = IsWordAt form rest

-- each number in it is one of 32 bits
abbrev pub AreWords : Expression → Type 0
AreWords e = OverNodes HasWordAt e

abbrev pub AreWordsIn : Form → Type 0
AreWordsIn form = IsWordAt form (OverParts HasWordAt form)

abbrev pub AreWordsOf : Expressions → Type 0
AreWordsOf args = OverArguments HasWordAt args
