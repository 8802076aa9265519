use Rattle.std.proofs.Common.{ℕ, take}
use Rattle.std.specs.Prelude.{Contains}
use Rattle.pw_fix.specs.Row.{Holds}
use Rattle.pw_webs.proofs.region.is_any_within.Given as goal

abbrev pub invariant-loop-place : goal.invariant-loop-place
invariant-loop-place l = (b : ℕ) → Contains (take l.place-index l.row) b → Holds l.set b → ⊥
