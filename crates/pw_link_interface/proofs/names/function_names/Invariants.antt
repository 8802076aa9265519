use Rattle.std.proofs.Common.{◌≡◌, map, take}
use Rattle.pw_link_interface.proofs.names.function_names.Given as goal

abbrev pub invariant-loop-each : goal.invariant-loop-each
invariant-loop-each l = l.names ≡ map (λ f. f.name) (take l.each-index l.functions)
