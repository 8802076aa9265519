use Rattle.std.proofs.Common.{inl, inr, refl}
use Rattle.pw_interp_runs.proofs.answers.with_line.Goals as goal

pub returns-in-Ok : goal.returns-in-Ok
returns-in-Ok c = inl (refl, c.in-Ok.ensures.line)

pub returns-in-Err : goal.returns-in-Err
returns-in-Err c = inr (refl, c.in-Err.ensures.memory)
