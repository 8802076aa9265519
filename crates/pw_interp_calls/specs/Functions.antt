-- A function of a program, by what a call of it runs.
use Rattle.std.specs.Prelude.{List, map}
use Rattle.std.specs.List.{flat_map}
use Rattle.pw_typed.specs.Views.{view_function}
use Rattle.pw_cmean.specs.Worlds.{Callable, callable, library_callable}
use Rattle.pw_interp_world.specs.Views.{view_part, view_library}
use Rattle.pw_interp_world.specs.declared.program.Part.{Part}
use Rattle.pw_interp_world.specs.declared.program.Body.{Body}
use Rattle.pw_interp_world.specs.declared.program.Body.TheVariants as B

-- the function with its name and its shape
abbrev pub callable_of : Body → Callable
callable_of (B.Defined part f) = callable (view_part part) (view_function f.now)
callable_of (B.Library g) = library_callable (view_library g)

-- the functions that modules define, in order
abbrev pub defined_in : List Part → List Callable
defined_in parts = flat_map (λ m. map (callable m) m.tree.functions) (map view_part parts)
