-- A program by its modules' names and typed trees.
use Rattle.std.specs.Prelude.{ℕ, List, map}
use Rattle.pw_typed.specs.Views.{view_module}
use Rattle.pw_typed.specs.declared.tree.TModule.{TModule}
use Rattle.pw_cmean.specs.Worlds.{Program, ProgramModule}

abbrev pub module_of : List ℕ × TModule → ProgramModule
module_of m = record { name = m.0; tree = view_module m.1 }

abbrev pub program_of : List (List ℕ × TModule) → Program
program_of modules = record { modules = map module_of modules }
