use Rattle.std.proofs.Common.{◌≡◌, map, take}
use Rattle.pw_flow.proofs.names.global_names.Given as goal

abbrev pub invariant-loop-global : goal.invariant-loop-global
invariant-loop-global l = map (λ name. name.now) l.names.items ≡ map (λ g. g.name) (take l.global-index l.globals)
