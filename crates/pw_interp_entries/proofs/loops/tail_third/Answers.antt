use Rattle.std.proofs.Common.{ap, true, ◌∙◌}
use Rattle.pw_typed.specs.Views.{view_optional, view_stmt}
use Rattle.pw_cmean.specs.Acts.{◌>>=◌, ◌>>◌, give}
use Rattle.pw_cmean.specs.Execution.{drop_value}
use Rattle.pw_cmean.specs.SourceRun.{calls}
use Rattle.pw_interp_todo.specs.Loops.{top_or_leave}
use Rattle.pw_interp_entries.proofs.Turning.{third_none, third_some}
use Rattle.pw_interp_entries.proofs.loops.tail_third.Goals as goal

pub returns-in-Some : goal.returns-in-Some
returns-in-Some c e n s =
    let a = view_stmt c.args.s.now in
    ap (λ o. ((drop_value (view_optional o) (calls e.world n) e >> give true) >>= top_or_leave a e (calls e.world n)) s) c.in-Some.is ∙ third_some a e n s _

pub returns-in-None : goal.returns-in-None
returns-in-None c e n s =
    let a = view_stmt c.args.s.now in
    ap (λ o. ((drop_value (view_optional o) (calls e.world n) e >> give true) >>= top_or_leave a e (calls e.world n)) s) c.in-None.is ∙ third_none a e n s ∙ c.back.ensures e n s
