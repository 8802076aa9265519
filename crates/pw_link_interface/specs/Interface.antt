-- What an object file shows to the other modules of its program.
use Rattle.std.specs.Prelude.{ℕ, Bool, if◌then◌else◌, Option, None, List, ◌++◌}
use Rattle.std.specs.List.{flat_map, list_any}
use Rattle.std.specs.Map.{lookup}
use Rattle.std.specs.Str.{bytes_eq}
use Rattle.pw_value.specs.ProgramNames.{main_name}
use Rattle.pw_flow.specs.FlowGraph.{names_in_global}
use Rattle.pw_object.specs.Functions.{names_of_symbol}
use Rattle.pw_object.specs.Object.{global_names, function_names}
use Rattle.pw_object.specs.declared.functions.ObjectFn.{ObjectFn}
use Rattle.pw_object.specs.declared.object.Object.{Object}
use Rattle.pw_link_rules.specs.declared.interface.Interface.{Interface}

-- the names in a function's relocations
abbrev pub names_of_fixes : ObjectFn → List (List ℕ)
names_of_fixes f = flat_map (λ x. names_of_symbol x.symbol) f.fixes

-- the names that a module uses: those that its object lists, and those that items of its global objects and
-- relocations of its words name
abbrev pub used_names : Object → List (List ℕ)
used_names o = o.used ++ flat_map names_in_global o.globals ++ flat_map names_of_fixes o.functions

abbrev pub defines_main : Object → Bool
defines_main o = list_any (bytes_eq main_name) (function_names o)

-- the shape that the module declares for its `main`, where it defines one
abbrev pub main_of : Object → Option (List ℕ)
main_of o = if defines_main o then lookup (bytes_eq main_name) o.declared else None

abbrev pub interface : Object → Interface
interface o = record { «module» = o.module; functions = function_names o; globals = global_names o; declared = o.declared; used = used_names o; main = main_of o }
