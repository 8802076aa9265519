use Rattle.std.proofs.Common.{◌≡◌, ◌⊎◌, ℕ, take}
use Rattle.std.specs.Prelude.{Contains, ◌↔◌}
use Rattle.pw_fix.specs.Row.{Holds}
use Rattle.pw_webs.proofs.walks.add_row.Given as goal

abbrev pub invariant-loop-place : goal.invariant-loop-place
invariant-loop-place l = record { same : l.found.len ≡ l.fn.found.len; holds : (b : ℕ) → Holds l.found b ↔ (Holds l.fn.found b ⊎ Contains (take l.place-index l.row) b) }
