-- The plain data that the parts of a program in the code show.
use Rattle.std.specs.Prelude.{List, map}
use Rattle.pw_typed.specs.Views.{view_module, view_function}
use Rattle.pw_cmean.specs.Worlds as worlds
use Rattle.pw_interp_world.specs.declared.program.Part.{Part}
use Rattle.pw_interp_world.specs.declared.program.LibraryFunction.{LibraryFunction}
use Rattle.pw_interp_world.specs.declared.program.LibraryFunction.TheVariants as L
use Rattle.pw_interp_world.specs.declared.program.Body.{Body}
use Rattle.pw_interp_world.specs.declared.program.Body.TheVariants as B
use Rattle.pw_interp_world.specs.declared.program.Callable.{Callable}

abbrev pub view_part : Part → worlds.ProgramModule
view_part p = record { name = p.name.now; tree = view_module p.tree.now }

abbrev pub view_program : List Part → worlds.Program
view_program parts = record { modules = map view_part parts }

abbrev pub view_library : LibraryFunction → worlds.LibraryFunction
view_library L.GetChar = worlds.GetChar
view_library L.PutChar = worlds.PutChar
view_library L.ExitRun = worlds.ExitRun

abbrev pub view_body : Body → worlds.Body
view_body (B.Defined part f) = worlds.Defined (view_part part) (view_function f.now)
view_body (B.Library g) = worlds.Library (view_library g)

abbrev pub view_callable : Callable → worlds.Callable
view_callable c = record { name = c.name; shape = c.shape; body = view_body c.body }

abbrev pub view_callables : List Callable → List worlds.Callable
view_callables callables = map view_callable callables
