-- Names of a module's own: of functions and of objects.
use Rattle.std.specs.Prelude.{ℕ, false, List, [], ◌∷◌, ◌++◌, decimal}
use Rattle.std.specs.List.{flat_map}
use Rattle.pw_types.specs.declared.kind.IntKind.TheVariants as K
use Rattle.pw_types.specs.TypeTrees.{Int, Qualified}
use Rattle.pw_types.specs.TypedTrees.{Symbol, External, Internal, Hidden, Empty, FunctionValue, ModuleValue}

-- a function of type int, which no function is
abbrev pub int_function : List ℕ → FunctionValue
int_function name = record { name = Internal name; token = 0; ty = Qualified (Int K.Int) false false; params = 0; locals = []; labels = 0; named = []; body = Empty 0 }

-- what an object of the module's own counts as: a function of type int, by the name behind the colon of its full name
abbrev pub own_functions : Symbol → List FunctionValue
own_functions (External x) = []
own_functions (Internal x) = int_function x ∷ []
own_functions (Hidden k) = int_function (46 ∷ decimal k) ∷ []

-- The module where each object of its own counts as a function of type int too. What says of a name that it is a function of some
-- function's type there says that it is no object's.
abbrev pub with_objects : ModuleValue → ModuleValue
with_objects m = record m { functions = m.functions ++ flat_map (λ g. own_functions g.name) m.globals }
