use Rattle.pw_opt_rows.proofs.Forgetting.{ForgetsBelow}
use Rattle.pw_opt_rows.proofs.row.forget_first.Given as goal

abbrev pub invariant-loop-place : goal.invariant-loop-place
invariant-loop-place l = ForgetsBelow l.of l.fn.flats l.place l.flats
