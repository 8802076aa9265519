use Rattle.std.proofs.Common.{ap, sym, ◌∙◌, ◌++◌}
use Rattle.pw_typed.specs.Views.{view_arms, view_stmt}
use Rattle.pw_types.specs.Labels.{labels_behind, labels_of_arms}
use Rattle.pw_cmean.specs.SourceRun.{calls}
use Rattle.pw_interp_todo.specs.Flows.{view_flow}
use Rattle.pw_interp_todo.specs.Members.{arms_from, arms_in, otherwise_in}
use Rattle.pw_interp_todo.specs.Parts.{met_arms}
use Rattle.pw_interp_flows.specs.Behind.{behind_arm, onward_act, view_onward}
use Rattle.pw_interp_flows.proofs.Following.{arms_are}
use Rattle.pw_interp_entries.proofs.Listing.{arms_drop}
use Rattle.pw_interp_flows.proofs.behind.later_arms.Goals as goal

pub returns-in-Met : goal.returns-in-Met
returns-in-Met c e n s =
    let i = c.args.i in
    let rest = arms_from i (arms_in (view_stmt c.args.s.now)) in
    let o = otherwise_in (view_stmt c.args.s.now) in
    let flow = view_flow c.args.flow in
    let same = ap view_arms c.from_on.ensures ∙ sym (arms_drop c.arms_in.result.now i) ∙ ap (arms_from i) c.arms_in.ensures in
    arms_are e (calls e.world n) s rest o flow
    ∙ ap (λ l. onward_act (λ at. met_arms rest o e at (calls e.world n)) (behind_arm (labels_of_arms l ++ labels_behind o) flow) s) (sym same)
    ∙ ap (λ x. onward_act (λ at. met_arms rest o e at (calls e.world n)) (behind_arm (labels_of_arms (view_arms c.from_on.result.now) ++ labels_behind x) flow) s) (sym c.otherwise_in.ensures)
    ∙ ap (λ x. onward_act (λ at. met_arms rest o e at (calls e.world n)) x s) (sym c.behind_arm.ensures ∙ ap view_onward c.in-Met.is)

pub returns-in-Left : goal.returns-in-Left
returns-in-Left c e n s =
    let i = c.args.i in
    let rest = arms_from i (arms_in (view_stmt c.args.s.now)) in
    let o = otherwise_in (view_stmt c.args.s.now) in
    let flow = view_flow c.args.flow in
    let same = ap view_arms c.from_on.ensures ∙ sym (arms_drop c.arms_in.result.now i) ∙ ap (arms_from i) c.arms_in.ensures in
    arms_are e (calls e.world n) s rest o flow
    ∙ ap (λ l. onward_act (λ at. met_arms rest o e at (calls e.world n)) (behind_arm (labels_of_arms l ++ labels_behind o) flow) s) (sym same)
    ∙ ap (λ x. onward_act (λ at. met_arms rest o e at (calls e.world n)) (behind_arm (labels_of_arms (view_arms c.from_on.result.now) ++ labels_behind x) flow) s) (sym c.otherwise_in.ensures)
    ∙ ap (λ x. onward_act (λ at. met_arms rest o e at (calls e.world n)) x s) (sym c.behind_arm.ensures ∙ ap view_onward c.in-Left.is)
