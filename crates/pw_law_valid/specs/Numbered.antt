-- Objects without a name, and how many there may be.
use Rattle.std.specs.Prelude.{ℕ, ◌<◌}
use Rattle.pw_types.specs.TypedTrees.{Symbol, External, Internal, Hidden}

-- an object without a name has a number below n
abbrev pub IsNumberedBelow : ℕ → Symbol → Type 0
IsNumberedBelow n (External name) = Unit {0}
IsNumberedBelow n (Internal name) = Unit {0}
IsNumberedBelow n (Hidden k) = k < n
