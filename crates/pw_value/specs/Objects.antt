-- The objects of a run: a list in which each object stands at its number. An object is a list of
-- bytes with two marks: whether it lives, and whether it may be written (ISO C90 6.1.2.4, 6.5.3).
use Rattle.std.specs.Prelude.{ℕ, zero, suc, ◌+◌, ◌≤◌, Bool, false, List, [], ◌∷◌, ◌++◌, length, slice_index_or, slice_set}
use Rattle.pw_value.specs.declared.value.Byte.{Byte}
use Rattle.pw_value.specs.declared.value.Byte.TheVariants as B

pub record Object : Type 0 where
  pub bytes : List Byte
  pub live : Bool
  pub writable : Bool

-- what stands at a number that no object has: no bytes, and no life
abbrev pub no_object : Object
no_object = record { bytes = []; live = false; writable = false }

abbrev pub object_at : List Object → ℕ → Object
object_at objects number = slice_index_or objects number no_object

-- a byte of an object; undefined past its end
abbrev pub byte_at : List Byte → ℕ → Byte
byte_at bytes offset = slice_index_or bytes offset B.Undefined

-- so many bytes from an offset on
abbrev pub bytes_from : ℕ → ℕ → List Byte → List Byte
bytes_from zero offset bytes = []
bytes_from (suc more) offset bytes = byte_at bytes offset ∷ bytes_from more (suc offset) bytes

-- the bytes with new ones in place of those from an offset on
abbrev pub with_bytes : List Byte → ℕ → List Byte → List Byte
with_bytes [] offset bytes = bytes
with_bytes (new ∷ more) offset bytes = with_bytes more (suc offset) (slice_set bytes offset new)

-- the range of so many bytes from an offset on lies wholly inside an object's bytes
abbrev pub IsInside : ℕ → ℕ → List Byte → Type 0
IsInside width offset bytes = offset + width ≤ length bytes

-- a new object stands last, so its number is the count of those before it
abbrev pub with_object : Object → List Object → List Object
with_object new objects = objects ++ new ∷ []

-- the objects after bytes of one were written
abbrev pub written : ℕ → ℕ → List Byte → List Object → List Object
written number offset new objects =
    let object = object_at objects number in
    slice_set objects number (record object { bytes = with_bytes new offset object.bytes })

-- the objects after one ended: it keeps its number and its bytes
abbrev pub ended : ℕ → List Object → List Object
ended number objects = slice_set objects number (record (object_at objects number) { live = false })
