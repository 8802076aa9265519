use Rattle.std.proofs.Common.{◌≡◌, vec_len}
use Rattle.pw_tests_base.proofs.solver.table_of.Given as goal

abbrev pub invariant-loop-n : goal.invariant-loop-n
invariant-loop-n g l = record { count : vec_len l.table.rows ≡ l.count; length : l.table.len ≡ l.len }
