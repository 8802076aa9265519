use Rattle.std.proofs.Common.{ap, sym, ◌∙◌}
use Rattle.pw_typed.specs.Views.{view_stmt, view_stmts}
use Rattle.pw_types.specs.Labels.{labels_among}
use Rattle.pw_cmean.specs.Execution.{items}
use Rattle.pw_cmean.specs.SourceRun.{calls}
use Rattle.pw_interp_todo.specs.Flows.{view_flow}
use Rattle.pw_interp_todo.specs.Members.{members_from, members_in}
use Rattle.pw_interp_flows.specs.Behind.{onward, onward_act, view_onward}
use Rattle.pw_interp_flows.proofs.Following.{members_are}
use Rattle.pw_interp_entries.proofs.Listing.{members_drop}
use Rattle.pw_interp_flows.proofs.behind.members.Goals as goal

pub returns-in-Met : goal.returns-in-Met
returns-in-Met c e n s =
    let i = c.args.i in
    let rest = members_from i (members_in (view_stmt c.args.s.now)) in
    let same = ap view_stmts c.from_on.ensures ∙ sym (members_drop c.members_in.result.now i) ∙ ap (members_from i) c.members_in.ensures in
    members_are e (calls e.world n) s rest (view_flow c.args.flow)
    ∙ ap (λ l. onward_act (λ at. items rest at (calls e.world n) e) (onward (labels_among l) (view_flow c.args.flow)) s) (sym same)
    ∙ ap (λ o. onward_act (λ at. items rest at (calls e.world n) e) o s) (sym c.behind_member.ensures ∙ ap view_onward c.in-Met.is)

pub returns-in-Left : goal.returns-in-Left
returns-in-Left c e n s =
    let i = c.args.i in
    let rest = members_from i (members_in (view_stmt c.args.s.now)) in
    let same = ap view_stmts c.from_on.ensures ∙ sym (members_drop c.members_in.result.now i) ∙ ap (members_from i) c.members_in.ensures in
    members_are e (calls e.world n) s rest (view_flow c.args.flow)
    ∙ ap (λ l. onward_act (λ at. items rest at (calls e.world n) e) (onward (labels_among l) (view_flow c.args.flow)) s) (sym same)
    ∙ ap (λ o. onward_act (λ at. items rest at (calls e.world n) e) o s) (sym c.behind_member.ensures ∙ ap view_onward c.in-Left.is)
