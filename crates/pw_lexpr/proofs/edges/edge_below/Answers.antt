use Rattle.std.proofs.Common.{◌<◌, All, length, sym, subst, ap, arith}
use Rattle.std.proofs.lemmas.List.Elements.{All-push}
use Rattle.pw_typed.specs.Views.{view_expr}
use Rattle.pw_typed.specs.declared.tree.TForm.{size-TForm}
use Rattle.pw_lexpr.proofs.StepLaws.{edge_begun, edge_further}
use Rattle.pw_lexpr.proofs.edges.edge_below.Goals as goal

pub loop-first-init : goal.loop-first-init
loop-first-init c =
    let empty = c.new-nodes.ensures.items in
    (edge_begun (λ node. view_expr node.now) (view_expr c.args.e.now) c.new-nodes.result.items empty, λ k d l. absurd (omega (arith, ap length empty, l)), omega arith)

pub loop-first-preserved : goal.loop-first-preserved
loop-first-preserved c =
    let e = c.args.e.now in
    let first = c.in-Some.first in
    let smaller = c.in-Some.ensures.smaller in
    let pushed = c.in_ok-push.ensures.items in
    let inv = c.loop-first.invariant in (
      edge_further (λ node. view_expr node.now) (view_expr e) c.loop-first.nodes.items c.push.new.self.items (view_expr c.loop-first.node.now) first inv.0 c.in-Some.ensures.first pushed,
      subst (All (λ node. size-TForm node.now.form < size-TForm e.form)) (sym pushed) (All-push (λ node. size-TForm node.now.form < size-TForm e.form) c.loop-first.nodes.items first inv.1 (omega (arith, smaller, inv.2))),
      omega (arith, smaller, inv.2),
    )
