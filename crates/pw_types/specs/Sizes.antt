-- The limit on sizes: an object and every other complete type has at most `size_limit` bytes.
use Rattle.std.specs.Prelude.{ℕ, nat_lt, if◌then◌else◌, Option, None, Some, List}
use Rattle.std.specs.Option.{option_or}
use Rattle.pw_types.specs.TypeTrees.{CType, Void, Int, Pointer, Array, Function, Record, Qualified, QTypes, NoType, OneType, RecordValue}
use Rattle.pw_types.specs.Layouts.{size_of}
use Rattle.pw_value.specs.Limits.{size_limit}

-- a size that passes the limit
abbrev pub passing : Option ℕ → Option ℕ
passing None = None
passing (Some size) = if nat_lt size_limit size then Some size else None

-- The size of the first type that passes the limit, among those that a type is made of: from its
-- element outward, and of a function the result before the parameters. None where they all keep it.
abbrev mutual
  pub oversize_of : List RecordValue → CType → Option ℕ
  oversize_of records Void = None
  oversize_of records (Int kind) = None
  oversize_of records (Pointer (Qualified ty constant volatile)) = oversize_of records ty
  oversize_of records (Array (Qualified ty constant volatile) count) =
      option_or (oversize_of records ty) (passing (size_of records (Array (Qualified ty constant volatile) count)))
  oversize_of records (Function (Qualified ty constant volatile) params) =
      option_or (oversize_of records ty) (first_oversize records params)
  oversize_of records (Record number) = passing (size_of records (Record number))

  -- the same of several types in order
  pub first_oversize : List RecordValue → QTypes → Option ℕ
  first_oversize records NoType = None
  first_oversize records (OneType (Qualified ty constant volatile) rest) =
      option_or (oversize_of records ty) (first_oversize records rest)
