-- What names denote, by the lists of the functions, of their numbers and of the objects.
use Rattle.std.specs.Prelude.{ℕ, Option, Some, None, option_map, option_and_then, List, position, slice_get}
use Rattle.std.specs.Str.{bytes_eq}
use Rattle.pw_value.specs.declared.value.Pointer.{Pointer}
use Rattle.pw_value.specs.declared.value.Pointer.TheVariants as P

-- the object of a place, or else the function of one
abbrev pub object_or_function : Option ℕ → Option ℕ → ℕ → Option Pointer
object_or_function (Some number) function offset = Some (P.Object number offset)
object_or_function None function offset = option_map P.Function function

-- the number of the function of a name
abbrev pub number_by_name : List (List ℕ) → List ℕ → List ℕ → Option ℕ
number_by_name names numbers name = option_and_then (slice_get numbers) (position (bytes_eq name) names)

-- what a name denotes
abbrev pub denoted : List (List ℕ) → List (List ℕ) → List ℕ → List ℕ → ℕ → Option Pointer
denoted globals names numbers name offset = object_or_function (position (bytes_eq name) globals) (number_by_name names numbers name) offset
