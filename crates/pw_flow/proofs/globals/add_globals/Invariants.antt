use Rattle.std.proofs.Common.{◌≡◌, ◌++◌, map, take}
use Rattle.pw_flow.proofs.globals.add_globals.Given as goal

abbrev pub invariant-loop-each : goal.invariant-loop-each
invariant-loop-each l = map (λ g. g.now) l.all.items ≡ map (λ g. g.now) l.fn.all.items ++ take l.each-index l.globals
