use Rattle.pw_typed.specs.Views.{view_stmt}
use Rattle.pw_cmean.specs.SourceRun.{calls}
use Rattle.pw_interp_todo.specs.Loops.{turn_or_leave}
use Rattle.pw_interp_entries.proofs.Turning.{condition_is}
use Rattle.pw_interp_entries.proofs.loops.test.Goals as goal

pub returns : goal.returns
returns c e n s = condition_is (view_stmt c.args.s.now) e n s c.args.c.now (turn_or_leave (view_stmt c.args.s.now) e (calls e.world n))
