use Rattle.std.proofs.Common.{◌≡◌, ◌<◌, ℕ, length}
use Rattle.std.specs.Prelude.{◌↔◌}
use Rattle.pw_webs.specs.Walking.{Leads}
use Rattle.pw_webs.proofs.neighbours.callers_of.Given as goal

abbrev pub invariant-loop-caller : goal.invariant-loop-caller
invariant-loop-caller l = record { count : length l.rows.items ≡ length l.calls; callers : (a b : ℕ) → Leads l.rows.items a b ↔ ((b < l.caller) × Leads l.calls b a) }
