use Rattle.std.proofs.Common.{◌≡◌, length, take}
use Rattle.std.specs.List.{sum_by}
use Rattle.pw_value.specs.Caps.{capped}
use Rattle.pw_link_rules.proofs.names.count_globals.Given as goal

abbrev pub invariant-loop-each : goal.invariant-loop-each
invariant-loop-each l = l.count ≡ capped (sum_by (λ i. length i.globals) (take l.each-index l.modules))
