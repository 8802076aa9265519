use Rattle.std.proofs.Common.{ap, refl, sym, ◌∙◌}
use Rattle.pw_types.specs.TypedTrees as tree
use Rattle.pw_types.specs.Views.{view_qtype, view_type}
use Rattle.pw_typed.specs.Views.{view_expr, view_exprs, view_form}
use Rattle.pw_typed.proofs.Rows.{call_value_view}
use Rattle.pw_interp_calls.specs.Views.{view_env}
use Rattle.pw_interp_state.specs.Shown.{view_state}
use Rattle.pw_interp_todo.specs.Asking.{answered, placed}
use Rattle.pw_interp_todo.proofs.LeadLaws.{left_so, named}
use Rattle.pw_interp_operands.proofs.NodeLaws.{by_form, place_by_form, comma_is, place_comma_is}
use Rattle.pw_interp_operands.proofs.places.by_form.Goals as goal

pub returns-in-Comma : goal.returns-in-Comma
unfolding view_form
returns-in-Comma c bound =
    let e = view_env c.args.env.now in
    let n = c.args.e.now in
    let w = view_state c.args.state.now in
    let b = c.in-Comma in
    left_so _ refl (named (place_comma_is n.token (view_qtype n.ty) e bound c.args.given (view_expr b.field-0.value) (view_expr b.b.value) (ap view_form b.is) ∙ ap (λ x. placed (view_expr x) e bound) (sym c.deref.ensures)))

pub returns-in-Member : goal.returns-in-Member
unfolding view_form
returns-in-Member c bound =
    let e = view_env c.args.env.now in
    let n = c.args.e.now in
    let w = view_state c.args.state.now in
    let b = c.in-Member in
    place_by_form n.token (view_qtype n.ty) e bound c.args.given (ap view_form b.is) (c.member.ensures (view_qtype n.ty) _ bound)

pub returns-in-Deref : goal.returns-in-Deref
unfolding view_form
returns-in-Deref c bound =
    let e = view_env c.args.env.now in
    let n = c.args.e.now in
    let w = view_state c.args.state.now in
    let b = c.in-Deref in
    place_by_form n.token (view_qtype n.ty) e bound c.args.given (ap view_form b.is) (c.through.ensures w (view_qtype n.ty) _ bound)

pub returns-in-Cond : goal.returns-in-Cond
unfolding view_form
returns-in-Cond c bound =
    let e = view_env c.args.env.now in
    let n = c.args.e.now in
    let w = view_state c.args.state.now in
    let b = c.in-Cond in
    place_by_form n.token (view_qtype n.ty) e bound c.args.given (ap view_form b.is ∙ ap (λ x. tree.Cond (view_expr b.field-0.value) (view_expr x) (view_expr b.b.value)) (sym c.deref-in-Cond.ensures) ∙ ap (λ x. tree.Cond (view_expr b.field-0.value) (view_expr c.deref-in-Cond.result.now) (view_expr x)) (sym c.deref-in-Cond-2.ensures)) (c.cond.ensures (view_qtype n.ty) (view_expr b.field-0.value) bound)

pub returns-in-Assign : goal.returns-in-Assign
unfolding view_form
returns-in-Assign c bound =
    let e = view_env c.args.env.now in
    let n = c.args.e.now in
    let w = view_state c.args.state.now in
    let b = c.in-Assign in
    c.assign.ensures w (view_expr b.field-0.value) (ap view_form b.is ∙ ap (λ x. tree.Assign (view_expr b.field-0.value) (view_expr x)) (sym c.deref-in-Assign.ensures)) bound
