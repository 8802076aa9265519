-- What a pointer among two operands points to.
use Rattle.std.specs.Prelude.{Option, None, List}
use Rattle.pw_types.specs.TypeTrees.{CType, Void, Int, Pointer, Array, Function, Record, type_of, RecordValue}
use Rattle.pw_types.specs.declared.record.Layout.{Layout}
use Rattle.pw_types.specs.Layouts.{layout_of}

-- behind a number
abbrev pub second_layout : List RecordValue → CType → Option Layout
second_layout records (Pointer q) = layout_of records (type_of q)
second_layout records Void = None
second_layout records (Int kind) = None
second_layout records (Array q count) = None
second_layout records (Function result params) = None
second_layout records (Record number) = None

-- the layout of what the first pointer among the operands points to
abbrev pub element_layout : List RecordValue → CType → CType → Option Layout
element_layout records (Pointer q) b = layout_of records (type_of q)
element_layout records (Int kind) b = second_layout records b
element_layout records Void b = None
element_layout records (Array q count) b = None
element_layout records (Function result params) b = None
element_layout records (Record number) b = None
