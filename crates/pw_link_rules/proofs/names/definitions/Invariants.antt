use Rattle.std.proofs.Common.{◌≡◌, ◌++◌, map, take}
use Rattle.std.specs.List.{flat_map}
use Rattle.pw_link_rules.specs.Linking.{defined_in}
use Rattle.pw_link_rules.specs.Entries.{definition}
use Rattle.pw_link_rules.proofs.names.definitions.Given as goal

abbrev pub invariant-loop-each : goal.invariant-loop-each
invariant-loop-each l = map definition l.all.items ≡ defined_in l.built_in ++ flat_map defined_in (take l.each-index l.modules)
