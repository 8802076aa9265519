use Rattle.std.proofs.Common.{◌≡◌, ℕ, ◌<◌}
use Rattle.pw_opt_rules.specs.declared.flat.Flat.TheVariants.{Many}
use Rattle.pw_opt_rules.specs.Rows.{known}
use Rattle.pw_opt_rows.proofs.row.make_many.Given as goal

abbrev pub invariant-loop-place : goal.invariant-loop-place
invariant-loop-place l = (j : ℕ) → j < l.place → known l.flats j ≡ Many
