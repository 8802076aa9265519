-- The category of a type: what a value of it is, and the kind of an integer type (ISO C90 6.1.2.5).
use Rattle.std.specs.Prelude.{false, None}
use Rattle.pw_types.specs.TypeTrees.{CType, Void, Int, Pointer, Array, Function, Record, Qualified, NoType}
use Rattle.pw_cmean.specs.Access as access
use Rattle.pw_interp_state.specs.declared.category.Category.{Category}
use Rattle.pw_interp_state.specs.declared.category.Category.TheVariants as C
use Rattle.pw_interp_state.specs.declared.category.Purpose.{Purpose}
use Rattle.pw_interp_state.specs.declared.category.Purpose.TheVariants as W

abbrev pub category_of : CType → Category
category_of Void = C.Void
category_of (Int kind) = C.Int kind
category_of (Pointer q) = C.Pointer
category_of (Array q count) = C.Array
category_of (Function result params) = C.Function
category_of (Record number) = C.Record

-- a type of the category
abbrev pub type_for : Category → CType
type_for C.Void = Void
type_for (C.Int kind) = Int kind
type_for C.Pointer = Pointer (Qualified Void false false)
type_for C.Array = Array (Qualified Void false false) None
type_for C.Function = Function (Qualified Void false false) NoType
type_for C.Record = Record 0

-- what a write is for
abbrev pub view_purpose : Purpose → access.Purpose
view_purpose W.Assigning = access.Assigning
view_purpose W.Initialising = access.Initialising
