use Rattle.std.proofs.Common.{◌≡◌, map, take}
use Rattle.pw_scope.specs.Log.{declared_by}
use Rattle.pw_scope.proofs.scopes.pairs.Given as goal

abbrev pub invariant-loop-entry : goal.invariant-loop-entry
invariant-loop-entry g l = map (λ d. (d.0.now, d.1)) l.found.items ≡ declared_by (take l.entry-index l.entries)
