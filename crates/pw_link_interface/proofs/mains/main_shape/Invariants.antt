use Rattle.std.proofs.Common.{◌≡◌, None, take}
use Rattle.std.specs.Map.{lookup}
use Rattle.std.specs.Str.{bytes_eq}
use Rattle.pw_value.specs.ProgramNames.{main_name}
use Rattle.pw_link_interface.proofs.mains.main_shape.Given as goal

abbrev pub invariant-loop-each : goal.invariant-loop-each
invariant-loop-each l = lookup (bytes_eq main_name) (take l.each-index l.declared) ≡ None
