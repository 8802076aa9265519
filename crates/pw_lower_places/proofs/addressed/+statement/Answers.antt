use Rattle.std.proofs.Common.{◌++◌, ◌+◌, drop, ap, ◌∙◌, arith}
use Rattle.std.proofs.lemmas.Grind.{common_steps}
use Rattle.std.proofs.lemmas.List.{at_drop_more, at_drop_all}
use Rattle.pw_typed.specs.Views.{view_expr, view_stmt, view_stmt_form, view_stmts, view_arms, view_initialisers, view_otherwise}
use Rattle.pw_typed.proofs.Rows.{block_view, if_view}
use Rattle.std.specs.List.{flat_map}
use Rattle.pw_lower.specs.Places.{addressed_in, addressed_in_statement, addressed_in_statements, addressed_in_arms, addressed_in_otherwise, addressed_in_initialiser}
use Rattle.pw_lower_places.specs.Marks.{marked}
use Rattle.pw_lower_places.proofs.MarkLaws.{marked_none, marked_both}
use Rattle.pw_lower_places.proofs.addressed.+statement.Goals as goal

pub mark_in_arms-loop-arm-preserved : goal.mark_in_arms-loop-arm-preserved
mark_in_arms-loop-arm-preserved t c =
    let all = c.args.arms.now in
    let i = c.loop-arm.arm-index in
    let a = c.arm-item.result in
    let s = at_drop_more (λ arms. marked (addressed_in_arms (view_arms arms)) c.loop-arm.marks) all i a c.loop-arm-test.true in
    let b = marked_both (addressed_in (view_expr a.condition) ++ addressed_in_statement (view_stmt a.body)) (addressed_in_arms (view_arms (drop (i + 1) all))) c.loop-arm.marks in
    let d = marked_both (addressed_in (view_expr a.condition)) (addressed_in_statement (view_stmt a.body)) c.loop-arm.marks in
    first_of (cc, grind (arith, common_steps))

pub mark_in_arms-returns : goal.mark_in_arms-returns
mark_in_arms-returns t c =
    let s = at_drop_all (λ arms. marked (addressed_in_arms (view_arms arms)) c.loop-arm.marks) c.args.arms.now c.loop-arm.arm-index c.loop-arm-test.false in
    let n = marked_none c.loop-arm.marks in
    first_of (cc, grind (arith, common_steps))

pub mark_in_statements-loop-s-preserved : goal.mark_in_statements-loop-s-preserved
mark_in_statements-loop-s-preserved t c =
    let all = c.args.all.now in
    let i = c.loop-s.s-index in
    let e = c.s-item.result in
    let s = at_drop_more (λ ss. marked (addressed_in_statements (view_stmts ss)) c.loop-s.marks) all i e c.loop-s-test.true in
    let b = marked_both (addressed_in_statement (view_stmt e)) (addressed_in_statements (view_stmts (drop (i + 1) all))) c.loop-s.marks in
    first_of (cc, grind (arith, common_steps))

pub mark_in_statements-returns : goal.mark_in_statements-returns
mark_in_statements-returns t c =
    let s = at_drop_all (λ ss. marked (addressed_in_statements (view_stmts ss)) c.loop-s.marks) c.args.all.now c.loop-s.s-index c.loop-s-test.false in
    let n = marked_none c.loop-s.marks in
    first_of (cc, grind (arith, common_steps))

pub mark_in_statement-returns-in-Block : goal.mark_in_statement-returns-in-Block
mark_in_statement-returns-in-Block t c =
    let k = c.args.s.now.token in
    let ms = c.args.marks.now in
    let all = c.in-Block.initialisers in
    let ss = c.in-Block.items in
    let e = ap (λ s. marked (addressed_in_statement s) ms) (ap (view_stmt_form k) c.in-Block.is ∙ block_view k c.in-Block.first c.in-Block.count all ss) in
    let b = marked_both (flat_map addressed_in_initialiser (view_initialisers all.items)) (addressed_in_statements (view_stmts ss.items)) ms in
    first_of (cc, grind (arith, common_steps))

pub mark_in_statement-returns-in-If : goal.mark_in_statement-returns-in-If
mark_in_statement-returns-in-If t c =
    let k = c.args.s.now.token in
    let ms = c.args.marks.now in
    let arms = c.in-If.arms in
    let o = c.in-If.otherwise in
    let e = ap (λ s. marked (addressed_in_statement s) ms) (ap (view_stmt_form k) c.in-If.is ∙ if_view k arms o) in
    let b = marked_both (addressed_in_arms (view_arms arms.items)) (addressed_in_otherwise (view_otherwise o)) ms in
    first_of (cc, grind (arith, common_steps))
