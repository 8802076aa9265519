-- What a structure or union type takes, told from its members.
use Rattle.std.specs.Prelude.{ℕ, ◌≡◌, ◌+◌, ◌^◌, ◌<◌, ◌≤◌, List, length, map, replicate}
use Rattle.pw_types.specs.TypeTrees.{MemberValue, ContentValue, RecordValue}
use Rattle.pw_types.specs.declared.record.RecordKind.{RecordKind}
use Rattle.pw_types.specs.declared.record.RecordKind.TheVariants.{Structure, Union}
use Rattle.pw_types.specs.declared.record.Layout.{Layout}
use Rattle.pw_types.specs.declared.contents.RecordFault.{RecordFault}
use Rattle.pw_types.specs.declared.contents.RecordFault.TheVariants.{TooLarge, ShapeTooLong, TooDeep, NoMemory}
use Rattle.pw_types.specs.declared.contents.Measure.{Measure}
use Rattle.pw_types.specs.Layouts.{record_layout, round_up, offsets_from, end_from, greatest, align_of}
use Rattle.pw_value.specs.Limits.{size_limit}
use Rattle.pw_types.specs.Shapes.{record_shape, member_shapes}
use Rattle.pw_types.specs.Records.{layouts_of, deepest, Follows}
use Rattle.pw_value.specs.Limits.{shape_limit, depth_limit}
use Rattle.pw_value.specs.Caps.{clipped, capped}

-- The members of these layouts, one after another: their offsets, where the last one ends, the
-- greatest size and the greatest alignment.
pub record Measures (layouts : List Layout) (m : Measure) : Type 0 where
  pub offsets : m.offsets.items ≡ map clipped (offsets_from 0 layouts)
  pub end : m.end ≡ end_from 0 layouts
  pub largest : m.largest ≡ greatest (map (λ l. l.size) layouts)
  pub align : m.align ≡ align_of layouts
  pub small : m.end < 2 ^ 100

-- the size of a record by the measures of its members
abbrev pub size_by : RecordKind → Measure → ℕ
size_by Structure m = round_up m.end m.align
size_by Union m = round_up m.largest m.align

-- its members' offsets, of which there are so many
abbrev pub offsets_by : RecordKind → List ℕ → ℕ → List ℕ
offsets_by Structure offsets count = offsets
offsets_by Union offsets count = replicate count 0

-- the layout and the shape that a record of these members has
abbrev pub layout_by_members : List RecordValue → RecordKind → List MemberValue → Layout
layout_by_members records kind members = record_layout kind (layouts_of records members)

abbrev pub shape_by_members : List RecordValue → RecordKind → List MemberValue → List ℕ
shape_by_members records kind members =
    record_shape kind (layout_by_members records kind members).size (member_shapes records members)

-- one more than the deepest member
abbrev pub depth_by_members : List RecordValue → List MemberValue → ℕ
depth_by_members records members = 1 + deepest records members

-- Why a record is refused: the first of its size, its shape and its depth that passes its limit, with
-- that number.
abbrev pub Refuses : List RecordValue → RecordKind → List MemberValue → RecordFault → Type 0
Refuses records kind members (TooLarge n) =
    (size_limit < (layout_by_members records kind members).size)
    × (n ≡ capped (layout_by_members records kind members).size)
Refuses records kind members (ShapeTooLong n) =
    ((layout_by_members records kind members).size ≤ size_limit)
    × (shape_limit < length (shape_by_members records kind members))
    × (n ≡ length (shape_by_members records kind members))
Refuses records kind members (TooDeep n) =
    ((layout_by_members records kind members).size ≤ size_limit)
    × (length (shape_by_members records kind members) ≤ shape_limit)
    × (depth_limit < depth_by_members records members)
    × (n ≡ capped (depth_by_members records members))
Refuses records kind members NoMemory = Unit {0}

-- what a record's definition comes to
pub record Defines (records : List RecordValue) (kind : RecordKind) (members : List MemberValue) (c : ContentValue) : Type 0 where
  pub follows : Follows records kind c
  pub members_kept : c.members ≡ members
  pub depth : c.depth ≡ depth_by_members records members
