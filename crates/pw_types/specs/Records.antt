-- What is known of the structure and union types of a module.
use Rattle.std.specs.Prelude.{ℕ, Bool, true, false, if◌then◌else◌, ◌≡◌, ◌+◌, ◌≤◌, max, None, Some, IsSomeAnd, unwrap_or, List, length, map, slice_get, All}
use Rattle.std.specs.Option.{option_map_or}
use Rattle.pw_types.specs.TypeTrees.{CType, Void, Int, Pointer, Array, Function, Record, Qualified, QTypes, NoType, OneType, type_of, MemberValue, ContentValue, RecordValue}
use Rattle.pw_types.specs.declared.record.RecordKind.{RecordKind}
use Rattle.pw_types.specs.declared.record.RecordKind.TheVariants.{Structure}
use Rattle.pw_types.specs.declared.record.Layout.{Layout}
use Rattle.pw_types.specs.Kinds.{is_record}
use Rattle.pw_types.specs.Layouts.{content_at, layout_of, scalar_layout, record_layout, record_offsets, greatest}
use Rattle.pw_value.specs.Limits.{size_limit, shape_limit, depth_limit}
use Rattle.pw_types.specs.Shapes.{record_shape, member_shapes}

-- The depth of a type counts pointers, arrays, functions and records. A record counts one more than
-- its deepest member, which stands in its definition; a pointer to a record ends there.
abbrev mutual
  pub depth_of : List RecordValue → CType → ℕ
  depth_of records Void = 0
  depth_of records (Int kind) = 0
  depth_of records (Pointer (Qualified ty constant volatile)) = if is_record ty then 1 else 1 + depth_of records ty
  depth_of records (Array (Qualified ty constant volatile) count) = 1 + depth_of records ty
  depth_of records (Function (Qualified ty constant volatile) params) =
      1 + max (depth_of records ty) (greatest_depth records params)
  depth_of records (Record number) = option_map_or (λ c. c.depth) (content_at records number) 1

  -- the depth of the deepest of several types
  pub greatest_depth : List RecordValue → QTypes → ℕ
  greatest_depth records NoType = 0
  greatest_depth records (OneType (Qualified ty constant volatile) rest) =
      max (depth_of records ty) (greatest_depth records rest)

-- the depth of the deepest member
abbrev pub deepest : List RecordValue → List MemberValue → ℕ
deepest records members = greatest (map (λ m. depth_of records (type_of m.ty)) members)

-- the layouts of the members of a record
abbrev pub layouts_of : List RecordValue → List MemberValue → List Layout
layouts_of records members = map (λ m. unwrap_or (layout_of records (type_of m.ty)) (scalar_layout 0)) members

-- a type that an object can have: it is complete and keeps the limit on sizes
abbrev pub IsObjectType : List RecordValue → CType → Type 0
IsObjectType records ty = IsSomeAnd (layout_of records ty) (λ l. l.size ≤ size_limit)

-- What follows from a record's members, whose types were complete before it was defined: its size and
-- alignment, the members' offsets, and its shape. The limits on sizes, shapes and depths hold.
pub record Follows (records : List RecordValue) (kind : RecordKind) (c : ContentValue) : Type 0 where
  pub complete : All (λ m. IsObjectType records (type_of m.ty)) c.members
  pub laid : c.layout ≡ record_layout kind (layouts_of records c.members)
  pub placed : c.offsets ≡ record_offsets kind (layouts_of records c.members)
  pub shaped : c.shape ≡ record_shape kind c.layout.size (member_shapes records c.members)
  pub within : c.layout.size ≤ size_limit
  pub aligned : 1 ≤ c.layout.align
  pub short : length c.shape ≤ shape_limit
  pub shallow : c.depth ≤ depth_limit

-- whether the type of a number is a structure or a union
abbrev pub kind_at : List RecordValue → ℕ → RecordKind
kind_at records number = option_map_or (λ r. r.kind) (slice_get records number) Structure

-- each record that is defined follows from its members
abbrev pub IsLaid : List RecordValue → Type 0
IsLaid records =
    (number : ℕ) (c : ContentValue) → content_at records number ≡ Some c → Follows records (kind_at records number) c

-- a type that is not defined yet
abbrev pub declared : RecordKind → RecordValue
declared kind = record { kind = kind; content = None }

abbrev pub defined : RecordKind → ContentValue → RecordValue
defined kind content = record { kind = kind; content = Some content }
