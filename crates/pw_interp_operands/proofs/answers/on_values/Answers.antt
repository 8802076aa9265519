use Rattle.std.proofs.Common.{ap, refl, sym, ◌∙◌}
use Rattle.pw_types.specs.TypedTrees as tree
use Rattle.pw_types.specs.Views.{view_qtype, view_type}
use Rattle.pw_typed.specs.Views.{view_expr, view_exprs, view_form}
use Rattle.pw_typed.proofs.Rows.{call_value_view}
use Rattle.pw_interp_calls.specs.Views.{view_env}
use Rattle.pw_interp_state.specs.Shown.{view_state}
use Rattle.pw_interp_todo.specs.Asking.{answered, placed}
use Rattle.pw_interp_todo.proofs.LeadLaws.{left_so, named}
use Rattle.pw_interp_operands.proofs.NodeLaws.{by_form, place_by_form, comma_is, place_comma_is}
use Rattle.pw_interp_operands.proofs.answers.on_values.Goals as goal

pub returns-in-Unary : goal.returns-in-Unary
unfolding view_form
returns-in-Unary c bound =
    let e = view_env c.args.env.now in
    let n = c.args.e.now in
    let w = view_state c.args.state.now in
    let b = c.in-Unary in
    by_form n.token (view_qtype n.ty) e bound c.args.given (ap view_form b.is) (c.unary.ensures _ bound)

pub returns-in-Binary : goal.returns-in-Binary
unfolding view_form
returns-in-Binary c bound =
    let e = view_env c.args.env.now in
    let n = c.args.e.now in
    let w = view_state c.args.state.now in
    let b = c.in-Binary in
    c.binary.ensures w b.field-0 (view_expr b.field-1.value) (ap view_form b.is ∙ ap (λ x. tree.Binary b.field-0 (view_expr b.field-1.value) (view_expr x)) (sym c.deref.ensures)) bound

pub returns-in-Logic : goal.returns-in-Logic
unfolding view_form
returns-in-Logic c bound =
    let e = view_env c.args.env.now in
    let n = c.args.e.now in
    let w = view_state c.args.state.now in
    let b = c.in-Logic in
    c.logic.ensures (view_expr b.field-1.value) (ap view_form b.is ∙ ap (λ x. tree.Logic b.op (view_expr b.field-1.value) (view_expr x)) (sym c.deref-in-Logic.ensures)) bound

pub returns-in-Cond : goal.returns-in-Cond
unfolding view_form
returns-in-Cond c bound =
    let e = view_env c.args.env.now in
    let n = c.args.e.now in
    let w = view_state c.args.state.now in
    let b = c.in-Cond in
    by_form n.token (view_qtype n.ty) e bound c.args.given (ap view_form b.is ∙ ap (λ x. tree.Cond (view_expr b.field-0.value) (view_expr x) (view_expr b.b.value)) (sym c.deref-in-Cond.ensures) ∙ ap (λ x. tree.Cond (view_expr b.field-0.value) (view_expr c.deref-in-Cond.result.now) (view_expr x)) (sym c.deref-in-Cond-2.ensures)) (c.cond.ensures (view_expr b.field-0.value) bound)

pub returns-in-Comma : goal.returns-in-Comma
unfolding view_form
returns-in-Comma c bound =
    let e = view_env c.args.env.now in
    let n = c.args.e.now in
    let w = view_state c.args.state.now in
    let b = c.in-Comma in
    left_so _ refl (named (comma_is n.token (view_qtype n.ty) e bound c.args.given (view_expr b.field-0.value) (view_expr b.b.value) (ap view_form b.is) ∙ ap (λ x. answered (view_expr x) e bound) (sym c.deref-in-Comma.ensures)))

pub returns-in-Cast : goal.returns-in-Cast
unfolding view_form
returns-in-Cast c bound =
    let e = view_env c.args.env.now in
    let n = c.args.e.now in
    let w = view_state c.args.state.now in
    let b = c.in-Cast in
    by_form n.token (view_qtype n.ty) e bound c.args.given (ap view_form b.is) (c.cast.ensures w _ bound)

pub returns-in-Deref : goal.returns-in-Deref
unfolding view_form
returns-in-Deref c bound =
    let e = view_env c.args.env.now in
    let n = c.args.e.now in
    let w = view_state c.args.state.now in
    let b = c.in-Deref in
    by_form n.token (view_qtype n.ty) e bound c.args.given (ap view_form b.is) (c.through.ensures _ bound)

pub returns-in-CallValue : goal.returns-in-CallValue
unfolding view_form
returns-in-CallValue c bound =
    let e = view_env c.args.env.now in
    let n = c.args.e.now in
    let w = view_state c.args.state.now in
    let b = c.in-CallValue in
    let args = c.deref-in-CallValue-2.result.now in
    let is = ap view_form b.is ∙ call_value_view b.a b.args ∙ ap (λ xs. tree.CallValue (view_expr b.a.value) (view_exprs xs)) (sym c.deref-in-CallValue-2.ensures.value) in
    by_form n.token (view_qtype n.ty) e bound c.args.given (is ∙ ap (λ x. tree.CallValue (view_expr x) (view_exprs args)) (sym c.deref-in-CallValue.ensures)) (c.call_value.ensures w bound)
