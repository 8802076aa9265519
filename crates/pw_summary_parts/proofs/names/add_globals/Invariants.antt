use Rattle.std.proofs.Common.{◌≡◌, ◌++◌, map, take}
use Rattle.pw_summary_parts.proofs.names.add_globals.Given as goal

abbrev pub invariant-loop-global : goal.invariant-loop-global
invariant-loop-global l = map (λ name. name.now) l.used.items ≡ map (λ name. name.now) l.fn.used.items ++ map (λ g. g.0) (take l.global-index l.globals)
