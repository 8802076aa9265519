use Rattle.std.proofs.Common.{ap, sym, ◌∙◌}
use Rattle.pw_typed.specs.Views.{view_stmt}
use Rattle.pw_cmean.specs.Acts.{◌>>=◌}
use Rattle.pw_cmean.specs.SourceRun.{calls}
use Rattle.pw_interp_todo.specs.Loops.{turn_or_leave}
use Rattle.pw_interp_entries.specs.Looping.{ahead_act}
use Rattle.pw_interp_entries.proofs.Turning.{always_is, left, loop_is, never_is, turned}
use Rattle.pw_interp_entries.proofs.loops.top.Goals as goal

pub returns-in-Condition : goal.returns-in-Condition
returns-in-Condition c e n s =
    let a = view_stmt c.args.s.now in
    let f = turn_or_leave a e (calls e.world n) in
    loop_is a e n s
    ∙ ap (λ act. (act >>= f) s) (sym (c.ahead_in.ensures e (calls e.world n)))
    ∙ ap (λ t. (ahead_act t e (calls e.world n) >>= f) s) c.in-Condition.is
    ∙ c.test.ensures e n s

pub returns-in-Always : goal.returns-in-Always
returns-in-Always c e n s =
    let a = view_stmt c.args.s.now in
    let f = turn_or_leave a e (calls e.world n) in
    loop_is a e n s
    ∙ ap (λ act. (act >>= f) s) (sym (c.ahead_in.ensures e (calls e.world n)))
    ∙ ap (λ t. (ahead_act t e (calls e.world n) >>= f) s) c.in-Always.is
    ∙ always_is a e n s f ∙ turned a e n s ∙ c.turn.ensures e n s

pub returns-in-Optional : goal.returns-in-Optional
returns-in-Optional c e n s =
    let a = view_stmt c.args.s.now in
    let f = turn_or_leave a e (calls e.world n) in
    loop_is a e n s
    ∙ ap (λ act. (act >>= f) s) (sym (c.ahead_in.ensures e (calls e.world n)))
    ∙ ap (λ t. (ahead_act t e (calls e.world n) >>= f) s) c.in-Optional.is
    ∙ c.test_some.ensures e n s

pub returns-in-Never : goal.returns-in-Never
returns-in-Never c e n s =
    let a = view_stmt c.args.s.now in
    let f = turn_or_leave a e (calls e.world n) in
    loop_is a e n s
    ∙ ap (λ act. (act >>= f) s) (sym (c.ahead_in.ensures e (calls e.world n)))
    ∙ ap (λ t. (ahead_act t e (calls e.world n) >>= f) s) c.in-Never.is
    ∙ never_is a e n s f ∙ left a e n s
