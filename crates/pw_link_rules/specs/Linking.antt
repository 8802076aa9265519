-- When modules make a program: each name that is used is defined, and once (ISO C90 6.7), all declarations
-- of a name are of one type (6.1.2.6), and the program has a `main` that takes nothing and returns an int
-- (5.1.2.2.1). The library is one more module.
use Rattle.std.specs.Prelude.{ℕ, ◌≡◌, ◌≢◌, ◌<◌, ◌≤◌, ◌⊎◌, Result, MatchResult, Some, None, List, [], ◌∷◌, ◌++◌, length, map, Contains, slice_get}
use Rattle.std.specs.List.{flat_map, sum_by}
use Rattle.std.specs.Ordering.{nat_cmp}
use Rattle.std.specs.Cmp.Lexicographic.{slice_cmp}
use Rattle.std.specs.declared.cmp.Ordering.TheVariants.{Less}
use Rattle.pw_value.specs.Caps.{capped}
use Rattle.pw_value.specs.Limits.{function_limit, global_limit}
use Rattle.pw_value.specs.ProgramNames.{library_name, library_functions, exit_name, getchar_name, putchar_name, main_shape, exit_shape, getchar_shape, putchar_shape, IsOrdinary}
use Rattle.pw_value.specs.Shapes.{Agree}
use Rattle.pw_value.specs.declared.fault.LinkFault.{LinkFault}
use Rattle.pw_value.specs.declared.fault.LinkFault.TheVariants as F
use Rattle.pw_value.specs.declared.fault.What.TheVariants.{Functions, Globals}
use Rattle.pw_link_rules.specs.declared.interface.Interface.{Interface}

-- ---- the names of a program

-- the library's functions, each with its shape
abbrev pub library_declarations : List (List ℕ × List ℕ)
library_declarations = (exit_name, exit_shape) ∷ (getchar_name, getchar_shape) ∷ (putchar_name, putchar_shape) ∷ []

abbrev pub library : Interface
library = record { «module» = library_name; functions = library_functions; globals = []; declared = library_declarations; used = []; main = None }

abbrev pub names_in : Interface → List (List ℕ)
names_in i = i.functions ++ i.globals

-- what a module defines, and what it declares, each with the module's name
abbrev pub defined_in : Interface → List (List ℕ × List ℕ)
defined_in i = map (λ name. (name, i.module)) i.functions ++ map (λ name. (name, i.module)) i.globals

abbrev pub declared_in : Interface → List (List ℕ × List ℕ × List ℕ)
declared_in i = map (λ d. (d.0, i.module, d.1)) i.declared

-- those of the library and of all modules
abbrev pub definitions : List Interface → List (List ℕ × List ℕ)
definitions modules = defined_in library ++ flat_map defined_in modules

abbrev pub declarations : List Interface → List (List ℕ × List ℕ × List ℕ)
declarations modules = declared_in library ++ flat_map declared_in modules

abbrev pub defined_names : List Interface → List (List ℕ)
defined_names modules = names_in library ++ flat_map names_in modules

abbrev pub used_names : List Interface → List (List ℕ)
used_names modules = flat_map (λ i. i.used) modules

-- how many functions and how many objects the modules define, $start included and the library not
abbrev pub function_count : List Interface → ℕ
function_count modules = sum_by (λ i. length i.functions) modules

abbrev pub global_count : List Interface → ℕ
global_count modules = sum_by (λ i. length i.globals) modules

-- ---- what may be wrong with a name; $start is no name of the language

-- it is used and defined nowhere
pub record IsUndefined (modules : List Interface) (name : List ℕ) : Type 0 where
  pub ordinary : IsOrdinary name
  pub used : Contains (used_names modules) name
  pub nowhere : ¬ Contains (defined_names modules) name

-- it is defined by one module, and again by another or by the same
pub record IsDefinedTwice (modules : List Interface) (name one other : List ℕ) : Type 0 where
  pub ordinary : IsOrdinary name
  pub place : ℕ
  pub again : ℕ
  pub apart : place ≢ again
  pub at_place : slice_get (definitions modules) place ≡ Some (name, one)
  pub at_again : slice_get (definitions modules) again ≡ Some (name, other)

-- two modules declare it with shapes that do not agree
pub record IsInConflict (modules : List Interface) (name one other : List ℕ) : Type 0 where
  pub ordinary : IsOrdinary name
  pub shape : List ℕ
  pub against : List ℕ
  pub first : Contains (declarations modules) (name, one, shape)
  pub second : Contains (declarations modules) (name, other, against)
  pub disagree : ¬ Agree shape against

-- some module defines `main` as a function of no parameters that returns an int
pub record HasMain (modules : List Interface) : Type 0 where
  pub where_it_is : Interface
  pub stands : Contains modules where_it_is
  pub shape : where_it_is.main ≡ Some main_shape

-- ---- the least in byte order

-- the least name of which something holds
pub record IsLeastName (Is : List ℕ → Type 0) (name : List ℕ) : Type 0 where
  pub is : Is name
  pub least : (other : List ℕ) → Is other → slice_cmp nat_cmp other name ≢ Less

-- the least name of which something holds with two modules, and for it the least pair of modules
pub record IsLeastPair (Is : List ℕ → List ℕ → List ℕ → Type 0) (name one other : List ℕ) : Type 0 where
  pub is : Is name one other
  pub least : (n a b : List ℕ) → Is n a b → slice_cmp (slice_cmp nat_cmp) (n ∷ a ∷ b ∷ []) (name ∷ one ∷ other ∷ []) ≢ Less

-- ---- the tests, in their order

pub data Test : Type 0 where
  few_functions : Test
  few_globals : Test
  all_defined : Test
  defined_once : Test
  all_agree : Test
  has_main : Test

abbrev pub rank : Test → ℕ
rank few_functions = 0
rank few_globals = 1
rank all_defined = 2
rank defined_once = 3
rank all_agree = 4
rank has_main = 5

abbrev pub Passes : Test → List Interface → Type 0
Passes few_functions modules = function_count modules ≤ function_limit
Passes few_globals modules = global_count modules ≤ global_limit
Passes all_defined modules = (name : List ℕ) → ¬ IsUndefined modules name
Passes defined_once modules = (name one other : List ℕ) → ¬ IsDefinedTwice modules name one other
Passes all_agree modules = (name one other : List ℕ) → ¬ IsInConflict modules name one other
Passes has_main modules = HasMain modules

-- what a test that fails tells
abbrev pub Fails : Test → List Interface → LinkFault → Type 0
Fails few_functions modules fault = (function_limit < function_count modules) × (fault ≡ F.TooMany Functions (capped (function_count modules)))
Fails few_globals modules fault = (global_limit < global_count modules) × (fault ≡ F.TooMany Globals (capped (global_count modules)))
Fails all_defined modules fault = (name : List ℕ) × IsLeastName (IsUndefined modules) name × (fault ≡ F.Undefined name)
Fails defined_once modules fault = (name : List ℕ) × (one : List ℕ) × (other : List ℕ) × IsLeastPair (IsDefinedTwice modules) name one other × (fault ≡ F.Duplicate name one other)
Fails all_agree modules fault = (name : List ℕ) × (one : List ℕ) × (other : List ℕ) × IsLeastPair (IsInConflict modules) name one other × (fault ≡ F.Conflict name one other)
Fails has_main modules fault = (¬ HasMain modules) × (fault ≡ F.NoMain)

-- the modules make a program
abbrev pub Links : List Interface → Type 0
Links modules = (test : Test) → Passes test modules

-- they make none: what the first test that fails tells
pub record Refusal (modules : List Interface) (fault : LinkFault) : Type 0 where
  pub failed : Test
  pub fails : Fails failed modules fault
  pub earlier : (test : Test) → rank test < rank failed → Passes test modules

-- what a call answers that makes a test
abbrev pub Answers : Test → List Interface → Result (Unit {0}) LinkFault → Type 0
Answers test modules r = MatchResult r (λ _. Passes test modules) (λ fault. (fault ≡ F.NoMemory) ⊎ Fails test modules fault)

-- the first tests, so many of them, are passed
abbrev pub Passed : ℕ → List Interface → Type 0
Passed n modules = (test : Test) → rank test < n → Passes test modules

-- what a call answers that makes the first tests, so many of them, or the last ones of these where those before are passed
abbrev pub AnswersUpTo : ℕ → List Interface → Result (Unit {0}) LinkFault → Type 0
AnswersUpTo n modules r = MatchResult r (λ _. Passed n modules) (λ fault. (fault ≡ F.NoMemory) ⊎ Refusal modules fault)
