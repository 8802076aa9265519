use Rattle.std.proofs.Common.{◌≡◌, ℕ, take}
use Rattle.std.specs.Prelude.{◌↔◌}
use Rattle.pw_fix.specs.Row.{Holds}
use Rattle.pw_webs.proofs.WalkLaws.{IsNextOf}
use Rattle.pw_webs.proofs.walks.next.Given as goal

abbrev pub invariant-loop-place : goal.invariant-loop-place
invariant-loop-place l = record { same : l.found.len ≡ l.from.len; holds : (f : ℕ) → Holds l.found f ↔ IsNextOf l.steps (take l.place-index l.place-items) f }
