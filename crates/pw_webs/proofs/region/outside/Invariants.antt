use Rattle.std.proofs.Common.{◌≡◌, ℕ, take}
use Rattle.std.specs.Prelude.{◌↔◌}
use Rattle.pw_fix.specs.Row.{Holds}
use Rattle.pw_webs.proofs.RegionLaws.{IsOutsideOf}
use Rattle.pw_webs.proofs.region.outside.Given as goal

abbrev pub invariant-loop-place : goal.invariant-loop-place
invariant-loop-place l = record { same : l.found.len ≡ l.set.len; holds : (f : ℕ) → Holds l.found f ↔ IsOutsideOf l.callers l.set (take l.place-index l.place-items) f }
