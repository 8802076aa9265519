-- Sizes, alignments and the places of members (ISO C90 6.1.2.5, 6.5.2.1). A structure or union type
-- is a number, and what is known of it stands in a list of records.
use Rattle.std.specs.Prelude.{ℕ, ◌+◌, ◌-◌, ◌*◌, ◌/◌, max, Option, None, Some, option_map, option_and_then, List, [], ◌∷◌, map, slice_get}
use Rattle.pw_types.specs.TypeTrees.{CType, Void, Int, Pointer, Array, Function, Record, Qualified, RecordValue, ContentValue}
use Rattle.pw_types.specs.declared.record.RecordKind.{RecordKind}
use Rattle.pw_types.specs.declared.record.RecordKind.TheVariants.{Structure, Union}
use Rattle.pw_types.specs.declared.record.Layout.{Layout}
use Rattle.pw_value.specs.Caps.{clipped}
use Rattle.pw_types.specs.Conversions.{size_of_kind}

-- what a record's definition says; None for one that is not defined
abbrev pub content_at : List RecordValue → ℕ → Option ContentValue
content_at records number = option_and_then (λ r. r.content) (slice_get records number)

-- a scalar's alignment is its size
abbrev pub scalar_layout : ℕ → Layout
scalar_layout size = record { size = size; align = size }

-- as many elements, one after another
abbrev pub array_layout : ℕ → Layout → Layout
array_layout count element = record { size = element.size * count; align = element.align }

-- The layout of a type. None for void, functions, arrays of unknown length and records that are not
-- defined, and for arrays of these.
abbrev pub layout_of : List RecordValue → CType → Option Layout
layout_of records Void = None
layout_of records (Int kind) = Some (scalar_layout (size_of_kind kind))
layout_of records (Pointer target) = Some (scalar_layout 4)
layout_of records (Array element None) = None
layout_of records (Array (Qualified ty constant volatile) (Some count)) = option_map (array_layout count) (layout_of records ty)
layout_of records (Function result params) = None
layout_of records (Record number) = option_map (λ c. c.layout) (content_at records number)

-- the least multiple of an alignment that is not below a number
abbrev pub round_up : ℕ → ℕ → ℕ
round_up n align = (n + (align - 1)) / align * align

-- the members of a structure from an offset on: each stands at the next multiple of its alignment
abbrev pub offsets_from : ℕ → List Layout → List ℕ
offsets_from offset [] = []
offsets_from offset (member ∷ rest) =
    round_up offset member.align ∷ offsets_from (round_up offset member.align + member.size) rest

-- where the last of them ends
abbrev pub end_from : ℕ → List Layout → ℕ
end_from offset [] = offset
end_from offset (member ∷ rest) = end_from (round_up offset member.align + member.size) rest

abbrev pub greatest : List ℕ → ℕ
greatest [] = 0
greatest (n ∷ rest) = max n (greatest rest)

-- the greatest alignment of the members; a record without members has alignment 1
abbrev pub align_of : List Layout → ℕ
align_of members = max 1 (greatest (map (λ l. l.align) members))

abbrev pub record_layout : RecordKind → List Layout → Layout
record_layout Structure members =
    record { size = round_up (end_from 0 members) (align_of members); align = align_of members }
record_layout Union members =
    record { size = round_up (greatest (map (λ l. l.size) members)) (align_of members); align = align_of members }

abbrev pub record_offsets : RecordKind → List Layout → List ℕ
record_offsets Structure members = offsets_from 0 members
record_offsets Union members = map (λ _. 0) members

-- the size of a type
abbrev pub size_of : List RecordValue → CType → Option ℕ
size_of records ty = option_map (λ l. l.size) (layout_of records ty)

-- a layout as far as 32 bits can tell its size
abbrev pub told : Layout → Layout
told l = record { size = clipped l.size; align = l.align }
