use Rattle.std.proofs.Common.{◌≡◌, ◌++◌, map, take}
use Rattle.pw_link_rules.specs.Entries.{definition}
use Rattle.pw_link_rules.proofs.names.add_defined.Given as goal

abbrev pub invariant-loop-name : goal.invariant-loop-name
invariant-loop-name l = map definition l.all.items ≡ map definition l.fn.all.items ++ map (λ name. (name, l.home)) (take l.name-index l.names)
