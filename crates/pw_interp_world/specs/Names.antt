-- What names of a program denote, by the lists of its functions and objects.
use Rattle.std.specs.Prelude.{ℕ, List, ◌∷◌, map, count_by}
use Rattle.pw_value.specs.ProgramNames.{start_name}
use Rattle.pw_value.specs.Names.{is_before}
use Rattle.pw_cmean.specs.Worlds.{Callable}

-- a function's number: how many of all names stand before its own
abbrev pub number_among : List Callable → List ℕ → ℕ
number_among functions name = count_by (λ other. is_before other name) (start_name ∷ map (λ f. f.name) functions)

abbrev pub numbers_of : List Callable → List ℕ
numbers_of functions = map (λ f. number_among functions f.name) functions
