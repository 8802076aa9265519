-- What types are (ISO C90 6.1.2.5, 6.2.1): the tests that constraints speak of.
use Rattle.std.specs.Prelude.{ℕ, zero, suc, ◌+◌, ◌==◌, Bool, true, false, not, ◌&&◌, ◌||◌, Option, None, Some, is_some, List, [], ◌∷◌, option_map, unwrap_or}
use Rattle.std.specs.List.{list_any}
pub use Rattle.pw_value.specs.ProgramNames.{same_truth}
pub use Rattle.pw_types.specs.Kinds.{is_integral, is_pointer, is_scalar, is_void, is_array, is_function, is_record}
use Rattle.pw_types.specs.declared.kind.IntKind.{IntKind}
use Rattle.pw_types.specs.declared.kind.IntKind.TheVariants as K
use Rattle.pw_types.specs.TypeTrees.{CType, Void, Int, Pointer, Array, Function, Record, QType, Qualified, QTypes, NoType, OneType, type_of, MemberValue, RecordValue}
use Rattle.pw_types.specs.Layouts.{content_at, size_of}
use Rattle.pw_value.specs.Limits.{depth_limit}

-- a type without qualifiers
abbrev pub plain : CType → QType
plain ty = Qualified ty false false

abbrev pub unqualified : QType → QType
unqualified q = plain (type_of q)

abbrev pub int_type : QType
int_type = plain (Int K.Int)

-- the types as numbers, in the order of their list
abbrev pub number_of_kind : IntKind → ℕ
number_of_kind K.Char = 0
number_of_kind K.SChar = 1
number_of_kind K.UChar = 2
number_of_kind K.Short = 3
number_of_kind K.UShort = 4
number_of_kind K.Int = 5
number_of_kind K.UInt = 6
number_of_kind K.Long = 7
number_of_kind K.ULong = 8

abbrev pub same_kind : IntKind → IntKind → Bool
same_kind a b = number_of_kind a == number_of_kind b

abbrev pub same_length : Option ℕ → Option ℕ → Bool
same_length None None = true
same_length (Some a) (Some b) = a == b
same_length _ _ = false

-- whether two types are written alike, qualifiers inside included
unfoldable mutual
  pub same_type : CType → CType → Bool
  same_type Void Void = true
  same_type (Int a) (Int b) = same_kind a b
  same_type (Pointer a) (Pointer b) = same_qualified a b
  same_type (Array a n) (Array b m) = same_qualified a b && same_length n m
  same_type (Function a ps) (Function b qs) = same_qualified a b && same_types ps qs
  same_type (Record a) (Record b) = a == b
  same_type _ _ = false

  pub same_qualified : QType → QType → Bool
  same_qualified (Qualified a c v) (Qualified b d w) = same_type a b && same_truth c d && same_truth v w

  pub same_types : QTypes → QTypes → Bool
  same_types NoType NoType = true
  same_types (OneType a ps) (OneType b qs) = same_qualified a b && same_types ps qs
  same_types _ _ = false

-- char, signed char, unsigned char
abbrev pub is_character_kind : IntKind → Bool
is_character_kind K.Char = true
is_character_kind K.SChar = true
is_character_kind K.UChar = true
is_character_kind _ = false

-- an array whose elements are characters
abbrev pub is_character_array : CType → Bool
is_character_array (Array (Qualified (Int kind) c v) n) = is_character_kind kind
is_character_array _ = false

-- an array whose length is not known
abbrev pub is_open_array : CType → Bool
is_open_array (Array q None) = true
is_open_array _ = false

-- what a pointer points to; of another type the type itself
abbrev pub pointee : CType → QType
pointee (Pointer q) = q
pointee ty = plain ty

-- the integer type; of another type int
abbrev pub kind_in : CType → IntKind
kind_in (Int kind) = kind
kind_in _ = K.Int

-- a type that has a size
abbrev pub is_complete : List RecordValue → CType → Bool
is_complete records ty = is_some (size_of records ty)

-- a pointer to an object type, with which arithmetic is done
abbrev pub points_to_object : List RecordValue → CType → Bool
points_to_object records (Pointer (Qualified ty c v)) = is_complete records ty
points_to_object records _ = false

abbrev pub points_to_function : CType → Bool
points_to_function (Pointer (Qualified ty c v)) = is_function ty
points_to_function _ = false

abbrev pub points_to_void : CType → Bool
points_to_void (Pointer (Qualified ty c v)) = is_void ty
points_to_void _ = false

abbrev pub points_to_record : CType → Bool
points_to_record (Pointer (Qualified ty c v)) = is_record ty
points_to_record _ = false

-- qualifiers more; an array's are those of its elements (6.5.3)
unfoldable pub qualify : Bool → Bool → QType → QType
qualify constant volatile (Qualified (Array q n) c v) = Qualified (Array (qualify constant volatile q) n) c v
qualify constant volatile (Qualified ty c v) = Qualified ty (c || constant) (v || volatile)

-- whether an object of the type is const, or its elements are, and the same of volatile
unfoldable pub is_const_object : QType → Bool
is_const_object (Qualified (Array q n) c v) = is_const_object q
is_const_object (Qualified ty c v) = c

unfoldable pub is_volatile_object : QType → Bool
is_volatile_object (Qualified (Array q n) c v) = is_volatile_object q
is_volatile_object (Qualified ty c v) = v

-- the innermost element of an array
unfoldable pub innermost : CType → CType
innermost (Array (Qualified ty c v) n) = innermost ty
innermost ty = ty

abbrev pub members_of : List RecordValue → CType → List MemberValue
members_of records (Record n) = unwrap_or (option_map (λ c. c.members) (content_at records n)) []
members_of records _ = []

-- Whether an object of the type, or one inside it, is const: so deep a type at most (6.2.2.1).
unfoldable pub holds_const : ℕ → List RecordValue → QType → Bool
holds_const zero records q = false
holds_const (suc deep) records q =
    is_const_object q
    || list_any (λ m. holds_const deep records m.ty) (members_of records (innermost (type_of q)))

-- no part of an object of the type is const
abbrev pub is_free_of_const : List RecordValue → QType → Bool
is_free_of_const records q = not (holds_const (depth_limit + 1) records q)

-- a list of types, and how many there are
abbrev pub types_in : List QType → QTypes
types_in [] = NoType
types_in (q ∷ rest) = OneType q (types_in rest)

abbrev pub count_of_types : QTypes → ℕ
count_of_types NoType = 0
count_of_types (OneType q rest) = 1 + count_of_types rest

abbrev pub parameters_of : CType → QTypes
parameters_of (Function q ps) = ps
parameters_of _ = NoType

abbrev pub result_of : CType → QType
result_of (Function q ps) = q
result_of ty = plain ty
