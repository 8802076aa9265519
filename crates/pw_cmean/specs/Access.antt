-- Accesses of objects: reading and writing a scalar, and copying a structure or union, with the operations
-- that they are where they have no meaning (ISO C90 6.1.2.4, 6.2.2.1, 6.3.3.2, 6.3.16.1).
use Rattle.std.specs.Prelude.{ℕ, ◌+◌, ◌%◌, ◌==◌, ◌&&◌, Bool, true, false, not, nat_le, nat_lt, List, [], ◌∷◌, ◌++◌, length}
use Rattle.std.specs.List.{list_any}
use Rattle.pw_value.specs.declared.value.Value.{Value}
use Rattle.pw_value.specs.declared.value.Value.TheVariants as V
use Rattle.pw_value.specs.declared.value.Byte.{Byte}
use Rattle.pw_value.specs.declared.value.Byte.TheVariants as B
use Rattle.pw_value.specs.declared.value.Pointer.TheVariants as P
use Rattle.pw_value.specs.Values.{encoding, scalar_in, pointer_in}
use Rattle.pw_value.specs.Objects.{Object, object_at, bytes_from}
use Rattle.pw_types.specs.TypeTrees.{CType, Int, Pointer, Record, RecordValue}
use Rattle.pw_types.specs.Conversions.{size_of_kind, is_signed_kind}
use Rattle.pw_types.specs.declared.record.Layout.{Layout}
use Rattle.pw_cmean.specs.declared.undefined.Undef.TheVariants.{UndefinedValue, NullPointer, OutsideObject, EndedObject, Alignment, ReadOnlyObject, PointerBytes, OverlappingCopy, FunctionAccess}
use Rattle.pw_cmean.specs.Undefined.{Finding, ◌when◌}
use Rattle.pw_cmean.specs.Acts.{Act, Site, ◌>>=◌, ◌>>◌, give, look, need, judge, write, wrong}
use Rattle.pw_types.specs.Layouts.{layout_of}

unfoldable pub objects_now : Act (List Object)
objects_now = look (λ s. s.objects)

-- go on at the object and the offset to which a pointer points
unfoldable pub within : {A : Type 0} → Value → (ℕ → ℕ → Act A) → Act A
within (V.At (P.Object number offset)) next = next number offset
within (V.At (P.Function f)) next = wrong
within V.Undefined next = wrong
within (V.Num n) next = wrong
within V.Null next = wrong
within (V.Piece p i) next = wrong

-- ---- what an access is where it has no meaning

-- so many bytes from the offset on lie wholly inside the object
abbrev pub is_inside : ℕ → ℕ → List Byte → Bool
is_inside width offset bytes = nat_le (offset + width) (length bytes)

-- an access of so many bytes, at a multiple of the alignment
abbrev pub access : List Object → ℕ → ℕ → Value → List Finding
access objects width align V.Null = NullPointer when true ∷ []
access objects width align (V.At (P.Function f)) = FunctionAccess when true ∷ []
access objects width align (V.At (P.Object number offset)) =
    OutsideObject when not (is_inside width offset (object_at objects number).bytes)
    ∷ EndedObject when not (object_at objects number).live
    ∷ Alignment when not (offset % align == 0)
    ∷ []
access objects width align _ = []

-- the bytes at a place, where they are wholly inside an object
abbrev pub bytes_at : List Object → ℕ → Value → List Byte
bytes_at objects width (V.At (P.Object number offset)) = bytes_from width offset (object_at objects number).bytes
bytes_at objects width _ = []

abbrev pub is_within : List Object → ℕ → Value → Bool
is_within objects width (V.At (P.Object number offset)) = is_inside width offset (object_at objects number).bytes
is_within objects width _ = false

abbrev pub is_undefined_byte : Byte → Bool
is_undefined_byte B.Undefined = true
is_undefined_byte (B.Num n) = false
is_undefined_byte (B.Piece p i) = false

abbrev pub has_no_value : Value → Bool
has_no_value V.Undefined = true
has_no_value _ = false

-- how many bytes a scalar has, and the value that they are
abbrev pub width_of : CType → ℕ
width_of (Int kind) = size_of_kind kind
width_of _ = 4

abbrev pub value_in : CType → List Byte → Value
value_in (Int kind) bytes = scalar_in bytes (is_signed_kind kind)
value_in _ bytes = pointer_in bytes

-- Reading a scalar: each byte has a value, and together they are one of the type. Both are looked at only where
-- the access is wholly inside an object.
abbrev pub reading : List Object → CType → Value → List Finding
reading objects ty place =
    UndefinedValue when (is_within objects (width_of ty) place && list_any is_undefined_byte (bytes_at objects (width_of ty) place))
    ∷ PointerBytes when (is_within objects (width_of ty) place && has_no_value (value_in ty (bytes_at objects (width_of ty) place)))
    ∷ access objects (width_of ty) (width_of ty) place

-- an object that may not be written
abbrev pub is_read_only : List Object → Value → Bool
is_read_only objects (V.At (P.Object number offset)) = not (object_at objects number).writable
is_read_only objects _ = false

-- An assignment writes only what may be written. An initialiser gives an object that is defined const its
-- value (6.5.3, 6.5.7).
pub data Purpose : Type 0 where
  Assigning : Purpose
  Initialising : Purpose

abbrev pub writing : Purpose → List Object → ℕ → ℕ → Value → List Finding
writing Assigning objects width align place = ReadOnlyObject when is_read_only objects place ∷ access objects width align place
writing Initialising objects width align place = access objects width align place

-- two ranges of so many bytes share a byte and are not the same (6.3.16.1)
abbrev pub overlap : ℕ → Value → Value → Bool
overlap size (V.At (P.Object a i)) (V.At (P.Object b j)) = a == b && not (i == j) && nat_lt i (j + size) && nat_lt j (i + size)
overlap size _ _ = false

-- ---- the accesses

unfoldable pub load : Site → CType → Value → Act Value
load site ty place = do
  objects ← objects_now
  judge site (reading objects ty place)
  within place (λ number offset. give (value_in ty (bytes_from (width_of ty) offset (object_at objects number).bytes)))

unfoldable pub store : Purpose → Site → CType → Value → Value → Act (Unit {0})
store purpose site ty place v = do
  objects ← objects_now
  judge site (writing purpose objects (width_of ty) (width_of ty) place)
  within place (λ number offset. write number offset (encoding v (width_of ty)))

-- all of the source is read before anything is written
unfoldable pub copy : Purpose → Site → Layout → Value → Value → Act (Unit {0})
copy purpose site layout target source = do
  objects ← objects_now
  judge site (OverlappingCopy when overlap layout.size target source ∷ access objects layout.size layout.align source ++ writing purpose objects layout.size layout.align target)
  within source (λ from i. within target (λ to j. write to j (bytes_from layout.size i (object_at objects from).bytes)))

-- The value of an lvalue: that of a scalar is read. A structure, a union, an array or a function is not
-- accessed, and its value is its place.
unfoldable pub fetch : Site → CType → Value → Act Value
fetch site (Int kind) place = load site (Int kind) place
fetch site (Pointer q) place = load site (Pointer q) place
fetch site _ place = give place

-- a value put into an object of the type: a scalar, or the structure or union at a place
unfoldable pub put : Purpose → Site → List RecordValue → CType → Value → Value → Act (Unit {0})
put purpose site records (Int kind) place v = store purpose site (Int kind) place v
put purpose site records (Pointer q) place v = store purpose site (Pointer q) place v
put purpose site records (Record number) place v = do
  layout ← need (layout_of records (Record number))
  copy purpose site layout place v
put purpose site records _ place v = wrong
