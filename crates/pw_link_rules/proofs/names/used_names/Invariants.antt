use Rattle.std.proofs.Common.{◌≡◌, map, take}
use Rattle.std.specs.List.{flat_map}
use Rattle.pw_link_rules.proofs.names.used_names.Given as goal

abbrev pub invariant-loop-each : goal.invariant-loop-each
invariant-loop-each l = map (λ name. name.now) l.names.items ≡ flat_map (λ i. i.used) (take l.each-index l.modules)
