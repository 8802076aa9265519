-- What of the flow run stands for the objects, values and bytes of the C run.
use Rattle.std.specs.Prelude.{ℕ, ◌≡◌, ◌≤◌, true, List, length, slice_index_or}
use Rattle.pw_value.specs.declared.value.Value.{Value}
use Rattle.pw_value.specs.declared.value.Value.TheVariants as V
use Rattle.pw_value.specs.declared.value.Byte.{Byte}
use Rattle.pw_value.specs.declared.value.Byte.TheVariants as B
use Rattle.pw_value.specs.declared.value.Pointer.{Pointer}
use Rattle.pw_value.specs.declared.value.Pointer.TheVariants as P
use Rattle.pw_value.specs.Objects.{Object, object_at, byte_at}

-- ---- objects

-- Where an object of the C run stands: in an object of the flow run, with its size; or, where it is a local that is kept
-- in a temporary, in none, and then no pointer leads to it.
pub data Spot : Type 0 where
  Nowhere : Spot
  In : (object size : ℕ) → Spot

-- The spots of all objects, each at its object's number. The list is only ever lengthened: an object that has ended
-- keeps its spot.
abbrev pub spot_of : List Spot → ℕ → Spot
spot_of spots o = slice_index_or spots o Nowhere

-- ---- values

-- into an object, or to the position behind it
pub record LeadsInto (spots : List Spot) (o i : ℕ) (q : Pointer) : Type 0 where
  pub object : ℕ
  pub size : ℕ
  pub there : spot_of spots o ≡ In object size
  pub inside : i ≤ size
  pub is : q ≡ P.Object object i

-- A pointer leads to the same offset in the object in which its own stands. A function stands for itself.
abbrev pub Leads : List Spot → Pointer → Pointer → Type 0
Leads spots (P.Object o i) q = LeadsInto spots o i q
Leads spots (P.Function f) q = q ≡ P.Function f

-- A value that is undefined may be any; a null pointer is the number 0.
abbrev pub Stands : List Spot → Value → Value → Type 0
Stands spots V.Undefined w = Unit {0}
Stands spots (V.Num n) w = w ≡ V.Num n
Stands spots V.Null w = w ≡ V.Num 0
Stands spots (V.At p) w = (q : Pointer) × Leads spots p q × (w ≡ V.At q)
Stands spots (V.Piece p i) w = (q : Pointer) × Leads spots p q × (w ≡ V.Piece q i)

abbrev pub ByteStands : List Spot → Byte → Byte → Type 0
ByteStands spots B.Undefined b = Unit {0}
ByteStands spots (B.Num n) b = b ≡ B.Num n
ByteStands spots (B.Piece p i) b = (q : Pointer) × Leads spots p q × (b ≡ B.Piece q i)

-- ---- memory

-- an object, and the one in which it stands
pub record Holds (spots : List Spot) (size : ℕ) (x y : Object) : Type 0 where
  pub live : y.live ≡ true
  pub own_size : length x.bytes ≡ size
  pub same_size : length y.bytes ≡ size
  pub bytes : (i : ℕ) → ByteStands spots (byte_at x.bytes i) (byte_at y.bytes i)

-- Each object that lives has its bytes in the object in which it stands, and no two that live stand in one.
pub record MemoryStands (spots : List Spot) (objects kept : List Object) : Type 0 where
  pub count : length spots ≡ length objects
  pub holds : (o f size : ℕ) → (object_at objects o).live ≡ true → spot_of spots o ≡ In f size
      → Holds spots size (object_at objects o) (object_at kept f)
  pub apart : (o p f n k : ℕ) → (object_at objects o).live ≡ true → (object_at objects p).live ≡ true
      → spot_of spots o ≡ In f n → spot_of spots p ≡ In f k → o ≡ p
