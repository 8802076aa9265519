use Rattle.std.proofs.Common.{◌≡◌, false, map, take}
use Rattle.std.specs.List.{list_any}
use Rattle.std.specs.Str.{bytes_eq}
use Rattle.pw_value.specs.ProgramNames.{main_name}
use Rattle.pw_link_interface.proofs.mains.is_main_among.Given as goal

abbrev pub invariant-loop-each : goal.invariant-loop-each
invariant-loop-each l = list_any (bytes_eq main_name) (map (λ f. f.name) (take l.each-index l.functions)) ≡ false
