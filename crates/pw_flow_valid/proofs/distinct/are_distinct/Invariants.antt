use Rattle.std.proofs.Common.{◌≡◌, map, take}
use Rattle.pw_flow.specs.ValidFlow.{AreDistinct}
use Rattle.pw_flow_valid.proofs.Apart.{scope_of}
use Rattle.pw_flow_valid.proofs.distinct.are_distinct.Given as goal

abbrev pub invariant-loop-name : goal.invariant-loop-name
invariant-loop-name l = record { met : l.met ≡ scope_of (map (λ name. name.now) (take l.name-index l.names)); distinct : AreDistinct (map (λ name. name.now) (take l.name-index l.names)) }
