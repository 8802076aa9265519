use Rattle.std.proofs.Common.{◌≡◌, ◌++◌, map, take}
use Rattle.pw_link_rules.specs.Entries.{declaration}
use Rattle.pw_link_rules.proofs.names.add_declared.Given as goal

abbrev pub invariant-loop-name : goal.invariant-loop-name
invariant-loop-name l = map declaration l.all.items ≡ map declaration l.fn.all.items ++ map (λ d. (d.0, l.home, d.1)) (take l.name-index l.declared)
