use Rattle.std.proofs.Common.{◌≡◌, [], ◌+◌, drop, sym, ap, ◌∙◌, arith}
use Rattle.std.proofs.lemmas.Grind.{common_steps}
use Rattle.std.proofs.lemmas.List.{at_drop_more, at_drop_all}
use Rattle.pw_typed.specs.Views.{view_expr, view_exprs, view_form}
use Rattle.pw_typed.proofs.Rows.{call_view, call_value_view}
use Rattle.pw_lower.specs.Places.{addressed_in, addressed_in_all, addressed_in_option}
use Rattle.pw_lower_places.specs.Marks.{marked, addressed_first, addressed_beside}
use Rattle.pw_lower_places.proofs.MarkLaws.{marked_none, marked_both, node_begun, node_passed}
use Rattle.pw_lower_places.proofs.addressed.+expression.Goals as goal

pub mark_in-loop-first-init : goal.mark_in-loop-first-init
mark_in-loop-first-init t c =
    (node_begun c.args.e.now c.args.marks.now c.mark_node.new.marks c.mark_node.ensures, omega arith)

pub mark_in-loop-first-preserved : goal.mark_in-loop-first-preserved
mark_in-loop-first-preserved t c =
    (node_passed c.loop-first.node.now c.in-Some.first.now c.loop-first.marks c.mark_node-in-Some.new.marks _ c.in-Some.ensures.first c.mark_node-in-Some.ensures c.loop-first.invariant.0, omega (arith, c.in-Some.ensures.smaller))

pub mark_in-returns : goal.mark_in-returns
mark_in-returns t c =
    let e : addressed_first (view_expr c.loop-first.node.now) ≡ [] = sym (ap addressed_in_option c.in_default.ensures.first) in
    let m = marked_none c.loop-first.marks in
    cc

pub mark_node-returns-in-Call : goal.mark_node-returns-in-Call
mark_node-returns-in-Call t c =
    let e = ap (λ f. marked (addressed_beside f) c.args.marks.now) (ap view_form c.in-Call.is ∙ call_view c.in-Call.field-0 c.in-Call.args) in
    cc

pub mark_node-returns-in-CallValue : goal.mark_node-returns-in-CallValue
mark_node-returns-in-CallValue t c =
    let e = ap (λ f. marked (addressed_beside f) c.args.marks.now) (ap view_form c.in-CallValue.is ∙ call_value_view c.in-CallValue.field-0 c.in-CallValue.args) in
    cc

pub mark_in_all-loop-e-preserved : goal.mark_in_all-loop-e-preserved
mark_in_all-loop-e-preserved t c =
    let all = c.args.all.now in
    let i = c.loop-e.e-index in
    let e = c.e-item.result in
    let s = at_drop_more (λ es. marked (addressed_in_all (view_exprs es)) c.loop-e.marks) all i e c.loop-e-test.true in
    let b = marked_both (addressed_in (view_expr e)) (addressed_in_all (view_exprs (drop (i + 1) all))) c.loop-e.marks in
    first_of (cc, grind (arith, common_steps))

pub mark_in_all-returns : goal.mark_in_all-returns
mark_in_all-returns t c =
    let s = at_drop_all (λ es. marked (addressed_in_all (view_exprs es)) c.loop-e.marks) c.args.all.now c.loop-e.e-index c.loop-e-test.false in
    let n = marked_none c.loop-e.marks in
    first_of (cc, grind (arith, common_steps))
