use Rattle.std.proofs.Common.{ap, refl, sym, ◌∙◌}
use Rattle.pw_types.specs.TypedTrees as tree
use Rattle.pw_types.specs.Views.{view_qtype}
use Rattle.pw_typed.specs.Views.{view_expr, view_exprs, view_form, view_symbol}
use Rattle.pw_typed.proofs.Rows.{call_view}
use Rattle.pw_cmean.specs.Evaluation.{answer_of}
use Rattle.pw_interp_calls.specs.Views.{view_env}
use Rattle.pw_interp_todo.specs.Asking.{answered, placed}
use Rattle.pw_interp_todo.specs.Operands.{call_behind}
use Rattle.pw_interp_todo.proofs.LeadLaws.{left_so, named}
use Rattle.pw_interp_asks.proofs.asks.answer_alone.Goals as goal

pub returns-in-Decay : goal.returns-in-Decay
unfolding answer_of view_form
returns-in-Decay c bound =
    let e = view_env c.args.env.now in
    let n = c.args.e.now in
    left_so _ refl (named (
    ap (λ f. answered (tree.Node n.token (view_qtype n.ty) f) e bound) (ap view_form c.in-Decay.is)
    ∙ ap (λ x. placed (view_expr x) e bound) (sym c.deref-in-Decay.ensures)))

pub returns-in-Address : goal.returns-in-Address
unfolding answer_of view_form
returns-in-Address c bound =
    let e = view_env c.args.env.now in
    let n = c.args.e.now in
    left_so _ refl (named (
    ap (λ f. answered (tree.Node n.token (view_qtype n.ty) f) e bound) (ap view_form c.in-Address.is)
    ∙ ap (λ x. placed (view_expr x) e bound) (sym c.deref-in-Address.ensures)))

pub returns-in-Call : goal.returns-in-Call
unfolding answer_of call_behind
returns-in-Call c bound =
    let e = view_env c.args.env.now in
    let n = c.args.e.now in
    let symbol = c.in-Call.symbol in
    let is = ap view_form c.in-Call.is ∙ call_view symbol c.in-Call.args ∙ ap (λ xs. tree.Call (view_symbol symbol) (view_exprs xs)) (sym c.deref.ensures.value) in
    left_so _ refl (named (ap (λ f. answered (tree.Node n.token (view_qtype n.ty) f) e bound) is))
