-- Reading and writing objects through pointers. None is where no lawful program leads.
use Rattle.std.specs.Prelude.{ℕ, ◌+◌, ◌%◌, ◌==◌, ◌&&◌, ◌||◌, nat_le, not, Bool, true, false, if◌then◌else◌, Option, Some, None, List, length}
use Rattle.pw_flow.specs.ValidFlow.{kind_size}
use Rattle.pw_value.specs.declared.value.Kind.{Kind}
use Rattle.pw_value.specs.declared.value.Kind.TheVariants.{S8, S16, W32}
use Rattle.pw_value.specs.declared.value.Value.{Value}
use Rattle.pw_value.specs.declared.value.Value.TheVariants.{Undefined, Num, Null, At, Piece}
use Rattle.pw_value.specs.declared.value.Byte.{Byte}
use Rattle.pw_value.specs.declared.value.Pointer.TheVariants as P
use Rattle.pw_value.specs.Objects.{Object, object_at, bytes_from, written}
use Rattle.pw_value.specs.Values.{encoding, scalar_in, pointer_in, same_pointer}

abbrev pub is_signed : Kind → Bool
is_signed S8 = true
is_signed S16 = true
is_signed _ = false

-- ---- scalars as bytes

-- four bytes that are no number may be the pieces of a pointer
abbrev pub word_or_pointer : Value → Value → Value
word_or_pointer Undefined (At p) = At p
word_or_pointer v w = v

-- the value of a scalar of a kind that stands in the bytes
abbrev pub scalar_of : Kind → List Byte → Value
scalar_of W32 bytes = word_or_pointer (scalar_in bytes false) (pointer_in bytes)
scalar_of k bytes = scalar_in bytes (is_signed k)

-- a pointer takes four bytes, and a piece of one takes one
abbrev pub may_stand : Kind → Value → Bool
may_stand W32 (At p) = true
may_stand k (At p) = false
may_stand k (Piece p i) = kind_size k == 1
may_stand k Null = false
may_stand k v = true

abbrev pub same_value : Value → Value → Bool
same_value Undefined Undefined = true
same_value (Num a) (Num b) = a == b
same_value (At p) (At q) = same_pointer p q
same_value (Piece p i) (Piece q j) = same_pointer p q && (i == j)
same_value v w = false

-- A value that a scalar of a kind gives back: one that is read as it was written.
abbrev pub is_of_kind : Kind → Value → Bool
is_of_kind k v = may_stand k v && same_value (scalar_of k (encoding v (kind_size k))) v

-- ---- objects

-- an access wholly inside a live object, at a multiple of the width
abbrev pub is_open : List Object → ℕ → ℕ → ℕ → ℕ → Bool
is_open objects o i size unit =
    (object_at objects o).live && (nat_le (i + size) (length (object_at objects o).bytes) && (i % unit == 0))

abbrev pub look_in : Kind → ℕ → ℕ → List Object → Option Value
look_in k o i objects =
    if is_open objects o i (kind_size k) (kind_size k)
    then Some (scalar_of k (bytes_from (kind_size k) i (object_at objects o).bytes))
    else None

abbrev pub poke_in : Kind → ℕ → ℕ → Value → List Object → Option (List Object)
poke_in k o i v objects =
    if is_open objects o i (kind_size k) (kind_size k) && may_stand k v
    then Some (written o i (encoding v (kind_size k)) objects)
    else None

-- what stands where a pointer leads
abbrev pub look : Kind → Value → List Object → Option Value
look k (At (P.Object o i)) objects = look_in k o i objects
look k v objects = None

-- the objects after a value was written there
abbrev pub poke : Kind → Value → Value → List Object → Option (List Object)
poke k (At (P.Object o i)) v objects = poke_in k o i v objects
poke k p v objects = None

-- two ranges of one size in one object are one, or do not meet
abbrev pub is_apart : ℕ → ℕ → ℕ → Bool
is_apart i j size = (i == j) || (nat_le (i + size) j || nat_le (j + size) i)

-- the objects after bytes were copied to a place from another, in units of so many bytes
abbrev pub copy_in : ℕ → ℕ → ℕ → ℕ → ℕ → ℕ → List Object → Option (List Object)
copy_in o i p j size unit objects =
    if is_open objects o i size unit && (is_open objects p j size unit && (not (o == p) || is_apart i j size))
    then Some (written o i (bytes_from size j (object_at objects p).bytes) objects)
    else None

abbrev pub copy : Value → Value → ℕ → ℕ → List Object → Option (List Object)
copy (At (P.Object o i)) (At (P.Object p j)) size unit objects = copy_in o i p j size unit objects
copy v w size unit objects = None
