use Rattle.std.proofs.Common.{◌≡◌, ◌⊎◌, ◌<◌, ℕ}
use Rattle.std.specs.Prelude.{◌↔◌}
use Rattle.pw_fix.specs.Row.{Holds}
use Rattle.pw_webs.proofs.region.add_common.Given as goal

abbrev pub invariant-loop-place : goal.invariant-loop-place
invariant-loop-place l = record { same : l.set.len ≡ l.fn.set.len; holds : (f : ℕ) → Holds l.set f ↔ (Holds l.fn.set f ⊎ ((f < l.place) × Holds l.one f × Holds l.other f)) }
