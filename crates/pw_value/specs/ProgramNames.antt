-- The names that have a meaning of their own: the functions at which a program and the machine start,
-- and those of the library (ISO C90 5.1.2.2.1, 7.9.7.6, 7.9.7.9, 7.10.4.3).
use Rattle.std.specs.Prelude.{ℕ, ◌≢◌, ◌≤◌, ◌↔◌, ◌==◌, ◌&&◌, nat_le, nat_lt, Bool, true, false, not, List, [], ◌∷◌, Contains, count_by}
use Rattle.std.specs.Str.{bytes_eq}
use Rattle.pw_value.specs.declared.program_names.StartName.{StartName}
use Rattle.pw_value.specs.declared.program_names.StartName.TheVariants.{Allowed, Refused}

-- $start, at which the machine starts: it calls main, and exit with what main answers
abbrev pub start_name : List ℕ
start_name = 36 ∷ 115 ∷ 116 ∷ 97 ∷ 114 ∷ 116 ∷ []

abbrev pub main_name : List ℕ
main_name = 109 ∷ 97 ∷ 105 ∷ 110 ∷ []

abbrev pub exit_name : List ℕ
exit_name = 101 ∷ 120 ∷ 105 ∷ 116 ∷ []

abbrev pub getchar_name : List ℕ
getchar_name = 103 ∷ 101 ∷ 116 ∷ 99 ∷ 104 ∷ 97 ∷ 114 ∷ []

abbrev pub putchar_name : List ℕ
putchar_name = 112 ∷ 117 ∷ 116 ∷ 99 ∷ 104 ∷ 97 ∷ 114 ∷ []

-- $lib, as the module that defines the library's functions
abbrev pub library_name : List ℕ
library_name = 36 ∷ 108 ∷ 105 ∷ 98 ∷ []

-- the library's functions, in byte order
abbrev pub library_functions : List (List ℕ)
library_functions = exit_name ∷ getchar_name ∷ putchar_name ∷ []

-- ---- their shapes

-- void $start(void), as fv
abbrev pub start_shape : List ℕ
start_shape = 102 ∷ 118 ∷ []

-- int main(void), as fi
abbrev pub main_shape : List ℕ
main_shape = 102 ∷ 105 ∷ []

-- void exit(int), as fvi
abbrev pub exit_shape : List ℕ
exit_shape = 102 ∷ 118 ∷ 105 ∷ []

-- int getchar(void), as fi
abbrev pub getchar_shape : List ℕ
getchar_shape = 102 ∷ 105 ∷ []

-- int putchar(int), as fii
abbrev pub putchar_shape : List ℕ
putchar_shape = 102 ∷ 105 ∷ 105 ∷ []

-- ---- where $start may stand

-- another name than $start
abbrev pub IsOrdinary : List ℕ → Type 0
IsOrdinary name = name ≢ start_name

-- a name at a place where $start may stand, or may not
abbrev pub MayStand : StartName → List ℕ → Type 0
MayStand Allowed name = Unit {0}
MayStand Refused name = IsOrdinary name

-- The functions of a module include $start exactly where they include main.
abbrev pub IncludesStart : List (List ℕ) → Type 0
IncludesStart functions = Contains functions start_name ↔ Contains functions main_name

-- how often a name stands in a list
abbrev pub times : List ℕ → List (List ℕ) → ℕ
times name names = count_by (λ other. bytes_eq other name) names

-- The rule of a module's functions and objects: $start stands beside main, and never twice, and no
-- object is named so.
pub record KeepsStart (functions globals : List (List ℕ)) : Type 0 where
  pub beside : IncludesStart functions
  pub once : times start_name functions ≤ 1
  pub no_global : ¬ Contains globals start_name

-- ---- the same as tests

abbrev pub may_stand : StartName → List ℕ → Bool
may_stand Allowed name = true
may_stand Refused name = not (bytes_eq name start_name)

abbrev pub same_truth : Bool → Bool → Bool
same_truth true b = b
same_truth false b = not b

abbrev pub keeps_start : List (List ℕ) → List (List ℕ) → Bool
keeps_start functions globals = same_truth (nat_lt 0 (times start_name functions)) (nat_lt 0 (times main_name functions)) && (nat_le (times start_name functions) 1 && (times start_name globals == 0))
