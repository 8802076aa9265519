use Rattle.std.proofs.Common.{ap, ◌∙◌}
use Rattle.pw_typed.specs.Views.{view_optional, view_stmt}
use Rattle.pw_cmean.specs.Acts.{◌>>=◌}
use Rattle.pw_cmean.specs.Execution.{for_condition}
use Rattle.pw_cmean.specs.SourceRun.{calls}
use Rattle.pw_interp_todo.specs.Loops.{turn_or_leave}
use Rattle.pw_interp_entries.proofs.Turning.{for_none, for_some, turned}
use Rattle.pw_interp_entries.proofs.loops.test_some.Goals as goal

pub returns-in-Some : goal.returns-in-Some
returns-in-Some c e n s =
    let a = view_stmt c.args.s.now in
    let f = turn_or_leave a e (calls e.world n) in
    ap (λ o. (for_condition (view_optional o) (calls e.world n) e >>= f) s) c.in-Some.is ∙ for_some a e n s _ f ∙ c.test.ensures e n s

pub returns-in-None : goal.returns-in-None
returns-in-None c e n s =
    let a = view_stmt c.args.s.now in
    let f = turn_or_leave a e (calls e.world n) in
    ap (λ o. (for_condition (view_optional o) (calls e.world n) e >>= f) s) c.in-None.is ∙ for_none a e n s f ∙ turned a e n s ∙ c.turn.ensures e n s
