use Rattle.std.proofs.Common.{◌≡◌, ◌++◌, ◌-◌, ℕ, map, take}
use Rattle.pw_live_fronts.proofs.edges.add_edges.Given as goal

abbrev pub invariant-loop-b : goal.invariant-loop-b
invariant-loop-b l = l.edges.items ≡ l.fn.edges.items ++ map (λ (b : ℕ). (l.count - 1 - b, l.to)) (take l.b-index l.next)
