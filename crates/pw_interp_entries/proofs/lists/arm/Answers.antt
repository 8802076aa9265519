use Rattle.std.proofs.Common.{ap, ◌∙◌}
use Rattle.pw_typed.specs.Views.{view_expr, view_stmt}
use Rattle.pw_cmean.specs.SourceRun.{calls}
use Rattle.pw_interp_todo.specs.Flows.{view_entry}
use Rattle.pw_interp_todo.specs.Members.{arms_from, arms_in, otherwise_in}
use Rattle.pw_interp_todo.specs.Parts.{met_arms}
use Rattle.pw_cmean.specs.Execution.{At_label}
use Rattle.pw_interp_entries.proofs.Listing.{arms_front, arms_label}
use Rattle.pw_interp_entries.proofs.lists.arm.Goals as goal

pub returns-in-Front : goal.returns-in-Front
returns-in-Front c is e n s =
    let a = c.args.first.now in
    let list = arms_from c.args.i (arms_in (view_stmt c.args.s.now)) in
    let o = otherwise_in (view_stmt c.args.s.now) in
    ap (λ at. met_arms list o e (view_entry at) (calls e.world n) s) c.in-Front.is
    ∙ arms_front e n s list a.token (view_expr a.condition) (view_stmt a.body) _ o is

pub returns-in-AtLabel : goal.returns-in-AtLabel
returns-in-AtLabel c is e n s =
    let a = c.args.first.now in
    let list = arms_from c.args.i (arms_in (view_stmt c.args.s.now)) in
    let o = otherwise_in (view_stmt c.args.s.now) in
    ap (λ at. met_arms list o e (view_entry at) (calls e.world n) s) c.in-AtLabel.is
    ∙ ap (λ l. met_arms l o e (At_label c.in-AtLabel.label) (calls e.world n) s) is
    ∙ arms_label e n s a.token (view_expr a.condition) (view_stmt a.body) (arms_from c.args.rest (arms_in (view_stmt c.args.s.now))) o c.in-AtLabel.label
    ∙ c.arm_at.ensures e n s
