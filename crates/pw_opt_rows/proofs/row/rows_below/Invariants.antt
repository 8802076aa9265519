use Rattle.std.proofs.Common.{ℕ, ◌<◌}
use Rattle.pw_opt_rules.specs.Flat.{IsBelow}
use Rattle.pw_opt_rules.specs.Rows.{known}
use Rattle.pw_opt_rows.proofs.row.rows_below.Given as goal

abbrev pub invariant-loop-t : goal.invariant-loop-t
invariant-loop-t l = (j : ℕ) → j < l.t → IsBelow (known l.a j) (known l.b j)
