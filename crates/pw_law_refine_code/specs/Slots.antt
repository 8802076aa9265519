-- The slots of locals.
use Rattle.std.specs.Prelude.{ℕ, ◌≡◌, Some, List, slice_get}
use Rattle.pw_types.specs.TypeTrees.{RecordValue, type_of}
use Rattle.pw_types.specs.TypedTrees.{LocalValue, FunctionValue}
use Rattle.pw_lower.specs.Operators.{bytes_of}
use Rattle.pw_lower.specs.Places.{places_of}
use Rattle.pw_lower.specs.Modules.{slots_of}

-- the slot of a number is that of a local, and has the size of its type
pub record IsSlotOf (records : List RecordValue) (f : FunctionValue) (k n : ℕ) : Type 0 where
  pub local : LocalValue
  pub is : slice_get f.locals k ≡ Some local
  pub size : slice_get (slots_of records f.locals (places_of f)) n ≡ Some (bytes_of records (type_of local.ty))
