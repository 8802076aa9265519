-- The names of objects and functions in a whole program (ISO C90 6.1.2.2).
use Rattle.std.specs.Prelude.{ℕ, List, ◌∷◌, ◌++◌, decimal}
use Rattle.pw_types.specs.TypedTrees.{Symbol, External, Internal, Hidden}

-- The name of a symbol of a module: `x` where all modules share it, and else `m:x`, or `m:.k` of the module's
-- hidden object of number k.
abbrev pub full_name : List ℕ → Symbol → List ℕ
full_name home (External x) = x
full_name home (Internal x) = home ++ 58 ∷ x
full_name home (Hidden k) = home ++ 58 ∷ 46 ∷ decimal k
