use Rattle.std.proofs.Common.{ap, ◌∙◌}
use Rattle.pw_typed.specs.Views.{view_stmt}
use Rattle.pw_cmean.specs.SourceRun.{calls}
use Rattle.pw_interp_todo.specs.Loops.{turn_or_leave}
use Rattle.pw_interp_entries.proofs.Turning.{left, turned}
use Rattle.pw_interp_flows.proofs.uses.turn_or_leave.Goals as goal

pub returns-then-more : goal.returns-then-more
returns-then-more c e n s =
    let a = view_stmt c.args.s.now in
    ap (λ b. turn_or_leave a e (calls e.world n) b s) c.if-more.true ∙ turned a e n s ∙ c.turn.ensures e n s

pub returns-else-more : goal.returns-else-more
returns-else-more c e n s =
    let a = view_stmt c.args.s.now in
    ap (λ b. turn_or_leave a e (calls e.world n) b s) c.if-more.false ∙ left a e n s
