use Rattle.std.proofs.Common.{◌≡◌, map, take}
use Rattle.pw_flow_valid.proofs.names.declared_names.Given as goal

abbrev pub invariant-loop-name : goal.invariant-loop-name
invariant-loop-name l = map (λ name. name.now) l.names.items ≡ map (λ d. d.0) (take l.name-index l.declared)
