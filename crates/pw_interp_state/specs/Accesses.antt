-- What accesses of objects come to, as functions of the objects.
use Rattle.std.specs.Prelude.{ℕ, Option, Some, None, Result, Ok, Err, List, ◌∷◌, ◌++◌}
use Rattle.pw_value.specs.declared.value.Value.{Value}
use Rattle.pw_value.specs.declared.value.Value.TheVariants as V
use Rattle.pw_value.specs.declared.value.Byte.{Byte}
use Rattle.pw_value.specs.declared.value.Pointer.TheVariants as P
use Rattle.pw_value.specs.Values.{encoding}
use Rattle.pw_value.specs.Objects.{Object, object_at, bytes_from, written}
use Rattle.pw_types.specs.declared.record.Layout.{Layout}
use Rattle.pw_cmean.specs.declared.undefined.Undef.TheVariants.{OverlappingCopy}
use Rattle.pw_cmean.specs.Undefined.{Finding, ◌when◌}
use Rattle.pw_cmean.specs.Access as access
use Rattle.pw_cmean.specs.Access.{width_of, value_in, reading, writing, overlap}
use Rattle.pw_interp_state.specs.declared.category.Category.{Category}
use Rattle.pw_interp_state.specs.declared.category.Category.TheVariants as C
use Rattle.pw_interp_state.specs.declared.fault.Fault.{Fault}
use Rattle.pw_interp_state.specs.declared.fault.Fault.TheVariants as F
use Rattle.pw_interp_state.specs.Categories.{type_for}
use Rattle.pw_interp_state.specs.Answers.{judged}

-- the width of a scalar of the category
abbrev pub width_for : Category → ℕ
width_for category = width_of (type_for category)

-- ---- reading a scalar

abbrev pub value_at : List Object → Category → Value → Result Value Fault
value_at objects category (V.At (P.Object number offset)) =
    Ok (value_in (type_for category) (bytes_from (width_for category) offset (object_at objects number).bytes))
value_at objects category (V.At (P.Function f)) = Err F.Wrong
value_at objects category V.Undefined = Err F.Wrong
value_at objects category (V.Num n) = Err F.Wrong
value_at objects category V.Null = Err F.Wrong
value_at objects category (V.Piece p i) = Err F.Wrong

abbrev pub loaded : List Object → Category → Value → Result Value Fault
loaded objects category place = judged (reading objects (type_for category) place) (value_at objects category place)

-- the value of an lvalue: of what is no scalar its place
abbrev pub fetched : List Object → Category → Value → Result Value Fault
fetched objects (C.Int kind) place = loaded objects (C.Int kind) place
fetched objects C.Pointer place = loaded objects C.Pointer place
fetched objects C.Void place = Ok place
fetched objects C.Array place = Ok place
fetched objects C.Function place = Ok place
fetched objects C.Record place = Ok place

-- ---- writing

abbrev pub written_at : List Object → List Byte → Value → Result (List Object) Fault
written_at objects bytes (V.At (P.Object number offset)) = Ok (written number offset bytes objects)
written_at objects bytes (V.At (P.Function f)) = Err F.Wrong
written_at objects bytes V.Undefined = Err F.Wrong
written_at objects bytes (V.Num n) = Err F.Wrong
written_at objects bytes V.Null = Err F.Wrong
written_at objects bytes (V.Piece p i) = Err F.Wrong

abbrev pub stored : access.Purpose → List Object → Category → Value → Value → Result (List Object) Fault
stored purpose objects category place v =
    judged (writing purpose objects (width_for category) (width_for category) place) (written_at objects (encoding v (width_for category)) place)

-- so many bytes at the one place, from the other
abbrev pub moved_from : List Object → ℕ → Value → Value → Result (List Object) Fault
moved_from objects size target (V.At (P.Object number offset)) = written_at objects (bytes_from size offset (object_at objects number).bytes) target
moved_from objects size target (V.At (P.Function f)) = Err F.Wrong
moved_from objects size target V.Undefined = Err F.Wrong
moved_from objects size target (V.Num n) = Err F.Wrong
moved_from objects size target V.Null = Err F.Wrong
moved_from objects size target (V.Piece p i) = Err F.Wrong

-- what a copy is where it has no meaning
abbrev pub copying : access.Purpose → List Object → Layout → Value → Value → List Finding
copying purpose objects layout target source =
    OverlappingCopy when overlap layout.size target source
    ∷ access.access objects layout.size layout.align source
    ++ writing purpose objects layout.size layout.align target

abbrev pub copied : access.Purpose → List Object → Layout → Value → Value → Result (List Object) Fault
copied purpose objects layout target source =
    judged (copying purpose objects layout target source) (moved_from objects layout.size target source)

-- a structure or union, where it has a layout
abbrev pub record_put : access.Purpose → List Object → Option Layout → Value → Value → Result (List Object) Fault
record_put purpose objects None place v = Err F.Wrong
record_put purpose objects (Some layout) place v = copied purpose objects layout place v

-- a value put into an object of a type that has the layout
abbrev pub value_put : access.Purpose → List Object → Category → Option Layout → Value → Value → Result (List Object) Fault
value_put purpose objects (C.Int kind) layout place v = stored purpose objects (C.Int kind) place v
value_put purpose objects C.Pointer layout place v = stored purpose objects C.Pointer place v
value_put purpose objects C.Record layout place v = record_put purpose objects layout place v
value_put purpose objects C.Void layout place v = Err F.Wrong
value_put purpose objects C.Array layout place v = Err F.Wrong
value_put purpose objects C.Function layout place v = Err F.Wrong
