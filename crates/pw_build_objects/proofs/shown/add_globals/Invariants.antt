use Rattle.std.proofs.Common.{◌≡◌, ◌++◌, map, take}
use Rattle.pw_build_objects.proofs.shown.add_globals.Given as goal

abbrev pub invariant-loop-global : goal.invariant-loop-global
invariant-loop-global l = map (λ name. name.now) l.names.items ≡ map (λ name. name.now) l.fn.names.items ++ map (λ g. g.name) (take l.global-index l.flow.globals)
