use Rattle.std.proofs.Common.{◌≡◌, map, take}
use Rattle.pw_law_shown.specs.Alike.{globals_of}
use Rattle.pw_build_objects.proofs.shown.globals_of.Given as goal

abbrev pub invariant-loop-flow : goal.invariant-loop-flow
invariant-loop-flow l = map (λ name. name.now) l.names.items ≡ globals_of (take l.flow-index l.flows)
