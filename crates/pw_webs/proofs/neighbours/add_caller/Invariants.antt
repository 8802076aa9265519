use Rattle.std.proofs.Common.{◌≡◌, ◌⊎◌, ℕ, take}
use Rattle.std.specs.Prelude.{Contains, ◌↔◌}
use Rattle.pw_webs.specs.Walking.{Leads}
use Rattle.pw_webs.proofs.neighbours.add_caller.Given as goal

abbrev pub invariant-loop-callee : goal.invariant-loop-callee
invariant-loop-callee l = (a b : ℕ) → Leads l.rows a b ↔ (Leads l.fn.rows a b ⊎ (Contains (take l.callee-index l.callees) a × (b ≡ l.caller)))
