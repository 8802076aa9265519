use Rattle.std.proofs.Common.{◌≡◌, ◌++◌, map, take}
use Rattle.std.specs.List.{flat_map}
use Rattle.pw_link_rules.specs.Linking.{names_in}
use Rattle.pw_link_rules.proofs.names.defined_names.Given as goal

abbrev pub invariant-loop-each : goal.invariant-loop-each
invariant-loop-each l = map (λ name. name.now) l.names.items ≡ names_in l.built_in ++ flat_map names_in (take l.each-index l.modules)
