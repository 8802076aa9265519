use Rattle.std.proofs.Common.{ap, refl, sym, ◌∙◌}
use Rattle.pw_types.specs.TypedTrees as tree
use Rattle.pw_types.specs.Views.{view_qtype, view_type}
use Rattle.pw_typed.specs.Views.{view_expr, view_exprs, view_form}
use Rattle.pw_typed.proofs.Rows.{call_value_view}
use Rattle.pw_interp_calls.specs.Views.{view_env}
use Rattle.pw_interp_state.specs.Shown.{view_state}
use Rattle.pw_interp_todo.specs.Asking.{answered, placed}
use Rattle.pw_interp_todo.proofs.LeadLaws.{left_so, named}
use Rattle.pw_interp_operands.proofs.NodeLaws.{by_form, place_by_form, comma_is, place_comma_is}
use Rattle.pw_interp_operands.proofs.answers.at_place.Goals as goal

pub returns-in-Assign : goal.returns-in-Assign
unfolding view_form
returns-in-Assign c bound =
    let e = view_env c.args.env.now in
    let n = c.args.e.now in
    let w = view_state c.args.state.now in
    let b = c.in-Assign in
    c.assign.ensures w (view_expr b.field-0.value) (ap view_form b.is ∙ ap (λ x. tree.Assign (view_expr b.field-0.value) (view_expr x)) (sym c.deref.ensures)) bound

pub returns-in-Compound : goal.returns-in-Compound
unfolding view_form
returns-in-Compound c bound =
    let e = view_env c.args.env.now in
    let n = c.args.e.now in
    let w = view_state c.args.state.now in
    let b = c.in-Compound in
    c.compound.ensures b.field-0 (ap view_form b.is ∙ ap (λ x. tree.Compound b.field-0 (view_type b.working) (view_expr x) (view_expr b.b.value)) (sym c.deref-in-Compound.ensures) ∙ ap (λ x. tree.Compound b.field-0 (view_type b.working) (view_expr c.deref-in-Compound.result.now) (view_expr x)) (sym c.deref-in-Compound-2.ensures)) bound

pub returns-in-Step : goal.returns-in-Step
unfolding view_form
returns-in-Step c bound =
    let e = view_env c.args.env.now in
    let n = c.args.e.now in
    let w = view_state c.args.state.now in
    let b = c.in-Step in
    by_form n.token (view_qtype n.ty) e bound c.args.given (ap view_form b.is ∙ ap (λ x. tree.Step b.op (view_expr x)) (sym c.deref-in-Step.ensures)) (c.step.ensures bound)

pub returns-in-Member : goal.returns-in-Member
unfolding view_form
returns-in-Member c bound =
    let e = view_env c.args.env.now in
    let n = c.args.e.now in
    let w = view_state c.args.state.now in
    let b = c.in-Member in
    by_form n.token (view_qtype n.ty) e bound c.args.given (ap view_form b.is) (c.member.ensures _ bound)
