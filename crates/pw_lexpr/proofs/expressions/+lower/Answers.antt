use Rattle.std.proofs.Common.{IfOk, Some, ◌≡◌, ◌<◌, subst}
use Rattle.std.proofs.lemmas.List.Elements.{All-pop}
use Rattle.pw_lower.specs.Codes.{Lowered, lowered_as}
use Rattle.pw_lower.specs.Expressions.{lower, arguments}
use Rattle.pw_typed.specs.Views.{view_expr, view_exprs}
use Rattle.pw_types.specs.Views.{view_qtype}
use Rattle.pw_typed.specs.declared.tree.TForm.{size-TForm}
use Rattle.pw_lower_forms.specs.Homes.{view_home}
use Rattle.pw_lexpr.proofs.ArgumentLaws.{args_further, args_done}
use Rattle.pw_lexpr.proofs.StepLaws.{edge_back, finish_call, finish_call_value}
use Rattle.pw_lexpr.proofs.expressions.+lower.Goals as goal

pub arguments-loop-arg-preserved : goal.arguments-loop-arg-preserved
arguments-loop-arg-preserved t c =
    args_further (view_home c.args.home) c.args.args.now c.loop-arg.arg-index c.arg-item.result c.loop-arg.temps c.push.new.self c.loop-arg.code c.lower.new.code c.in_ok-temp.temp c.unwrap_or.result (arguments (view_home c.args.home) (view_exprs c.args.args.now) c.args.code.now)
    c.loop-arg-test.true c.arg-item.is c.loop-arg.invariant c.in_ok-temp.ensures c.unwrap_or.ensures c.in_ok-push.ensures

pub arguments-returns : goal.arguments-returns
arguments-returns t c =
    args_done (view_home c.args.home) c.args.args.now c.loop-arg.arg-index c.loop-arg.temps c.loop-arg.code (arguments (view_home c.args.home) (view_exprs c.args.args.now) c.args.code.now)
    c.loop-arg-test.false c.loop-arg.invariant

pub lower-loop-node-preserved : goal.lower-loop-node-preserved
lower-loop-node-preserved t c =
    let e = c.args.e.now in
    let popped = c.in-Some.ensures.items in (
      edge_back (λ node. view_expr node.now) (view_home c.args.home) (view_expr e) c.loop-node.below.items c.pop.new.self.items c.in-Some.node (lowered_as c.loop-node.first c.loop-node.code) (lowered_as c.in_ok-first.first c.finish.new.code) (lower (view_home c.args.home) (view_expr e) c.args.code.now)
          c.loop-node.invariant.0 popped c.in_ok-first.ensures,
      (All-pop (λ node. size-TForm node.now.form < size-TForm e.form) c.loop-node.below.items c.pop.new.self.items (Some c.in-Some.node) popped c.loop-node.invariant.1).0,
    )

pub finish-returns-in-Call : goal.finish-returns-in-Call
finish-returns-in-Call t c =
    let x = lowered_as c.args.first c.args.code.now in
    let whole = finish_call (view_home c.args.home) (view_qtype c.args.e.now.ty) c.args.e.now.form c.in-Call.symbol c.in-Call.args c.deref-in-Call.result.now x c.in-Call.is c.deref-in-Call.ensures.value in
    subst (λ (y : Lowered). IfOk c.named.result (λ r. lowered_as r c.named.new.code ≡ y)) whole c.named.ensures

pub finish-returns-in-CallValue : goal.finish-returns-in-CallValue
finish-returns-in-CallValue t c =
    let x = lowered_as c.args.first c.args.code.now in
    let whole = finish_call_value (view_home c.args.home) (view_qtype c.args.e.now.ty) c.args.e.now.form c.in-CallValue.a c.deref-in-CallValue-2.result.now c.in-CallValue.args c.deref-in-CallValue.result.now x c.in-CallValue.is c.deref-in-CallValue-2.ensures c.deref-in-CallValue.ensures.value in
    subst (λ (y : Lowered). IfOk c.through.result (λ r. lowered_as r c.through.new.code ≡ y)) whole c.through.ensures
