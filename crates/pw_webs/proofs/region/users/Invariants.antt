use Rattle.std.proofs.Common.{◌≡◌, ◌<◌, ℕ}
use Rattle.std.specs.Prelude.{◌↔◌}
use Rattle.pw_fix.specs.Row.{Holds}
use Rattle.pw_webs.specs.Walking.{IsMarked}
use Rattle.pw_webs.proofs.region.users.Given as goal

abbrev pub invariant-loop-place : goal.invariant-loop-place
invariant-loop-place l = record { same : l.row.len ≡ l.count; holds : (f : ℕ) → Holds l.row f ↔ ((f < l.place) × IsMarked l.sets f l.global) }
