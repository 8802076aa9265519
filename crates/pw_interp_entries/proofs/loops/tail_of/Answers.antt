use Rattle.std.proofs.Common.{ap, sym, ◌∙◌}
use Rattle.pw_typed.specs.Views.{view_stmt}
use Rattle.pw_cmean.specs.Acts.{◌>>=◌}
use Rattle.pw_cmean.specs.SourceRun.{calls}
use Rattle.pw_interp_todo.specs.Loops.{top_or_leave}
use Rattle.pw_interp_entries.specs.Looping.{tail_act}
use Rattle.pw_interp_entries.proofs.Turning.{always_is, back_or, left_or, never_is}
use Rattle.pw_interp_entries.proofs.loops.tail_of.Goals as goal

pub returns-in-Condition : goal.returns-in-Condition
returns-in-Condition c e n s =
    let a = view_stmt c.args.s.now in
    let f = top_or_leave a e (calls e.world n) in
    ap (λ act. (act >>= f) s) (sym (c.tail_in.ensures e (calls e.world n)))
    ∙ ap (λ t. (tail_act t e (calls e.world n) >>= f) s) c.in-Condition.is
    ∙ c.tail_test.ensures e n s

pub returns-in-Always : goal.returns-in-Always
returns-in-Always c e n s =
    let a = view_stmt c.args.s.now in
    let f = top_or_leave a e (calls e.world n) in
    ap (λ act. (act >>= f) s) (sym (c.tail_in.ensures e (calls e.world n)))
    ∙ ap (λ t. (tail_act t e (calls e.world n) >>= f) s) c.in-Always.is
    ∙ always_is a e n s f ∙ back_or a e n s ∙ c.back.ensures e n s

pub returns-in-Third : goal.returns-in-Third
returns-in-Third c e n s =
    let a = view_stmt c.args.s.now in
    let f = top_or_leave a e (calls e.world n) in
    ap (λ act. (act >>= f) s) (sym (c.tail_in.ensures e (calls e.world n)))
    ∙ ap (λ t. (tail_act t e (calls e.world n) >>= f) s) c.in-Third.is
    ∙ c.tail_third.ensures e n s

pub returns-in-Never : goal.returns-in-Never
returns-in-Never c e n s =
    let a = view_stmt c.args.s.now in
    let f = top_or_leave a e (calls e.world n) in
    ap (λ act. (act >>= f) s) (sym (c.tail_in.ensures e (calls e.world n)))
    ∙ ap (λ t. (tail_act t e (calls e.world n) >>= f) s) c.in-Never.is
    ∙ never_is a e n s f ∙ left_or a e n s
