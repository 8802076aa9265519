use Rattle.std.proofs.Common.{ap, ◌∙◌}
use Rattle.pw_typed.specs.Views.{view_stmt}
use Rattle.pw_cmean.specs.SourceRun.{calls}
use Rattle.pw_interp_todo.specs.Loops.{top_or_leave}
use Rattle.pw_interp_entries.proofs.Turning.{back_or, left_or}
use Rattle.pw_interp_flows.proofs.uses.top_or_leave.Goals as goal

pub returns-then-more : goal.returns-then-more
returns-then-more c e n s =
    let a = view_stmt c.args.s.now in
    ap (λ b. top_or_leave a e (calls e.world n) b s) c.if-more.true ∙ back_or a e n s ∙ c.back.ensures e n s

pub returns-else-more : goal.returns-else-more
returns-else-more c e n s =
    let a = view_stmt c.args.s.now in
    ap (λ b. top_or_leave a e (calls e.world n) b s) c.if-more.false ∙ left_or a e n s
