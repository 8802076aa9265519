use Rattle.std.proofs.Common.{◌≡◌, ◌⊎◌, ◌<◌, ℕ, length}
use Rattle.std.specs.Prelude.{◌↔◌}
use Rattle.pw_webs.specs.Walking.{Leads}
use Rattle.pw_webs.proofs.neighbours.joined_rows.Given as goal

abbrev pub invariant-loop-i : goal.invariant-loop-i
invariant-loop-i l = record { count : length l.rows.items ≡ l.i; either : (a b : ℕ) → Leads l.rows.items a b ↔ ((a < l.i) × (Leads l.ones a b ⊎ Leads l.others a b)) }
