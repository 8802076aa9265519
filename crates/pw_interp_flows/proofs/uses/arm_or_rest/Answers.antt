use Rattle.pw_typed.specs.Views.{view_stmt}
use Rattle.std.proofs.Common.{ap, ◌∙◌}
use Rattle.pw_cmean.specs.SourceRun.{calls}
use Rattle.pw_interp_todo.specs.Going.{arm_or_rest}
use Rattle.pw_interp_todo.specs.Members.{arms_from, arms_in, otherwise_in}
use Rattle.pw_interp_entries.proofs.Listing.{rest_met, rest_unmet}
use Rattle.pw_interp_flows.proofs.uses.arm_or_rest.Goals as goal

pub returns-then-met : goal.returns-then-met
returns-then-met c e n s =
    let rest = arms_from c.args.rest (arms_in (view_stmt c.args.s.now)) in
    let o = otherwise_in (view_stmt c.args.s.now) in
    ap (λ b. arm_or_rest (view_stmt c.args.arm.now.body) rest o e (calls e.world n) b s) c.if-met.true ∙ rest_met e n s (view_stmt c.args.arm.now.body) rest o

pub returns-else-met : goal.returns-else-met
returns-else-met c e n s =
    let rest = arms_from c.args.rest (arms_in (view_stmt c.args.s.now)) in
    let o = otherwise_in (view_stmt c.args.s.now) in
    ap (λ b. arm_or_rest (view_stmt c.args.arm.now.body) rest o e (calls e.world n) b s) c.if-met.false ∙ rest_unmet e n s (view_stmt c.args.arm.now.body) rest o
