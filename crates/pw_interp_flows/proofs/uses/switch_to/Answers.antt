use Rattle.std.proofs.Common.{ap}
use Rattle.pw_typed.specs.Views.{view_stmt}
use Rattle.pw_cmean.specs.Execution.{At_label, meaning, switch_to}
use Rattle.pw_cmean.specs.SourceRun.{calls}
use Rattle.pw_interp_flows.proofs.uses.switch_to.Goals as goal

pub returns-in-Some : goal.returns-in-Some
unfolding switch_to
returns-in-Some c e n s = ap (λ o. switch_to o (λ l. meaning (view_stmt c.args.body.now) (At_label l) (calls e.world n) e) s) c.in-Some.is

pub returns-in-None : goal.returns-in-None
unfolding switch_to
returns-in-None c e n s = ap (λ o. switch_to o (λ l. meaning (view_stmt c.args.body.now) (At_label l) (calls e.world n) e) s) c.in-None.is
