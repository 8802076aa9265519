use Rattle.std.proofs.Common.{◌≡◌, map, take}
use Rattle.std.specs.List.{sum_by}
use Rattle.pw_value.specs.Caps.{capped}
use Rattle.pw_flow.specs.ValidFlow.{global_room}
use Rattle.pw_link.proofs.data.count_bytes.Given as goal

abbrev pub invariant-loop-each : goal.invariant-loop-each
invariant-loop-each l = l.count ≡ capped (sum_by global_room (map (λ g. g.now) (take l.each-index l.globals)))
