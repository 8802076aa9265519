use Rattle.std.proofs.Common.{◌≡◌, OnOk, is_some, ◌||◌, nat_lt, ◌++◌, ◌+◌, ◌-◌, length, length-drop, drop, refl, sym, ap, ◌∙◌, subst, arith, rules}
use Rattle.std.proofs.lemmas.Grind.{common_steps}
use Rattle.std.proofs.lemmas.List.{at_drop_more, at_drop_all}
use Rattle.pw_typed.specs.Views.{view_expr, view_optional, view_stmt, view_stmt_form, view_stmts, view_arms, view_cases, view_initialisers, view_otherwise}
use Rattle.pw_typed.proofs.Rows.{block_view}
use Rattle.pw_lower.specs.Statements.{initialised_all, begun, looping, repeating, counting, switching, lower_statement, lower_statements}
use Rattle.pw_lstmt.specs.Frames.{view_frame, joins_of, arms_code, else_code, is_followed}
use Rattle.pw_lstmt.proofs.StatementLaws.{statements_none, statements_more, statement_block, if_is, empty_is, evaluate_is, while_is, do_is, for_is, switch_is, label_is, goto_is, break_is, continue_is, return_is, if_whole, arms_on, joins_on, followed}
use Rattle.pw_lstmt.proofs.statements.+statement.Goals as goal

pub lower_statements-loop-s-preserved : goal.lower_statements-loop-s-preserved
lower_statements-loop-s-preserved t c =
    let f = view_frame c.args.frame in
    let ways = c.args.ways in
    let all = c.args.all.now in
    let i = c.loop-s.s-index in
    let e = c.s-item.result in
    let s = at_drop_more (λ ss. lower_statements f ways (view_stmts ss) c.loop-s.code) all i e c.loop-s-test.true in
    let b = statements_more f ways (view_stmt e) (view_stmts (drop (i + 1) all)) c.loop-s.code in
    first_of (cc, grind (arith, common_steps))

pub lower_statements-returns : goal.lower_statements-returns
lower_statements-returns t c =
    let f = view_frame c.args.frame in
    let s = at_drop_all (λ ss. lower_statements f c.args.ways (view_stmts ss) c.loop-s.code) c.args.all.now c.loop-s.s-index c.loop-s-test.false in
    let n = statements_none f c.args.ways c.loop-s.code in
    first_of (cc, grind (arith, common_steps))

pub lower_statement-returns-in-Empty : goal.lower_statement-returns-in-Empty
lower_statement-returns-in-Empty t c =
    let k = c.args.s.now.token in
    let f = view_frame c.args.frame in
    sym (ap (λ x. lower_statement f c.args.ways (view_stmt_form k x) c.args.code.now) c.in-Empty.is ∙ empty_is f c.args.ways k c.args.code.now)

pub lower_statement-returns-in-Expr : goal.lower_statement-returns-in-Expr
lower_statement-returns-in-Expr t c =
    let k = c.args.s.now.token in
    let f = view_frame c.args.frame in
    subst (λ d. OnOk c.evaluate.result (c.evaluate.new.code ≡ d)) (sym (ap (λ x. lower_statement f c.args.ways (view_stmt_form k x) c.args.code.now) c.in-Expr.is ∙ evaluate_is f c.args.ways k c.in-Expr.e c.args.code.now)) c.evaluate.ensures

pub lower_statement-returns-in-Block : goal.lower_statement-returns-in-Block
lower_statement-returns-in-Block t c =
    let k = c.args.s.now.token in
    let f = view_frame c.args.frame in
    let w = c.args.ways in
    let code = c.args.code.now in
    let all = c.in-Block.initialisers in
    let ss = c.in-Block.items in
    let e = ap (λ s. lower_statement f w s code) (ap (view_stmt_form k) c.in-Block.is ∙ block_view k c.in-Block.first c.in-Block.count all ss) ∙ statement_block f w k c.in-Block.first c.in-Block.count (view_initialisers all.items) (view_stmts ss.items) code in
    subst (λ d. OnOk c.lower_block.result (c.lower_block.new.code ≡ d))
    (ap (λ l. lower_statements f w (view_stmts c.deref-in-Block.result.now) (initialised_all f.home f.locals (view_initialisers l) code)) c.deref.ensures.value
    ∙ ap (λ l. lower_statements f w (view_stmts l) (initialised_all f.home f.locals (view_initialisers all.items) code)) c.deref-in-Block.ensures.value
    ∙ sym e)
    c.lower_block.ensures

pub lower_statement-returns-in-While : goal.lower_statement-returns-in-While
lower_statement-returns-in-While t c =
    let k = c.args.s.now.token in
    let f = view_frame c.args.frame in
    let w = c.args.ways in
    let code = c.args.code.now in
    let e = ap (λ x. lower_statement f w (view_stmt_form k x) code) c.in-While.is ∙ while_is f w k c.in-While.e c.in-While.body code in
    subst (λ d. OnOk c.lower_while.result (c.lower_while.new.code ≡ d)) (ap (λ b. looping f.home (view_expr c.in-While.e) (λ own d. lower_statement f own (view_stmt b) d) code) c.deref-in-While.ensures ∙ sym e) c.lower_while.ensures

pub lower_statement-returns-in-Do : goal.lower_statement-returns-in-Do
lower_statement-returns-in-Do t c =
    let k = c.args.s.now.token in
    let f = view_frame c.args.frame in
    let w = c.args.ways in
    let code = c.args.code.now in
    let e = ap (λ x. lower_statement f w (view_stmt_form k x) code) c.in-Do.is ∙ do_is f w k c.in-Do.e c.in-Do.body code in
    subst (λ d. OnOk c.lower_do.result (c.lower_do.new.code ≡ d)) (ap (λ b. repeating f.home (view_expr c.in-Do.e) (λ own d. lower_statement f own (view_stmt b) d) code) c.deref-in-Do.ensures ∙ sym e) c.lower_do.ensures

pub lower_statement-returns-in-For : goal.lower_statement-returns-in-For
lower_statement-returns-in-For t c =
    let k = c.args.s.now.token in
    let f = view_frame c.args.frame in
    let w = c.args.ways in
    let code = c.args.code.now in
    let e = ap (λ x. lower_statement f w (view_stmt_form k x) code) c.in-For.is ∙ for_is f w k c.in-For.first c.in-For.test c.in-For.step c.in-For.body code in
    subst (λ d. OnOk c.lower_for.result (c.lower_for.new.code ≡ d)) (ap (λ b. counting f.home (view_optional c.in-For.first) (view_optional c.in-For.test) (view_optional c.in-For.step) (λ own d. lower_statement f own (view_stmt b) d) code) c.deref-in-For.ensures ∙ sym e) c.lower_for.ensures

pub lower_statement-returns-in-Switch : goal.lower_statement-returns-in-Switch
lower_statement-returns-in-Switch t c =
    let k = c.args.s.now.token in
    let f = view_frame c.args.frame in
    let w = c.args.ways in
    let code = c.args.code.now in
    let e = ap (λ x. lower_statement f w (view_stmt_form k x) code) c.in-Switch.is ∙ switch_is f w k c.in-Switch.e c.in-Switch.cases c.in-Switch.default c.in-Switch.body code in
    subst (λ d. OnOk c.lower_switch.result (c.lower_switch.new.code ≡ d))
    (ap (λ l. switching f.home (view_expr c.in-Switch.e) (view_cases l) c.in-Switch.default (λ out d. lower_statement f (record w { out = out }) (view_stmt c.deref-in-Switch.result.now) d) code) c.deref-in-Switch-2.ensures.value
    ∙ ap (λ b. switching f.home (view_expr c.in-Switch.e) (view_cases c.in-Switch.cases.items) c.in-Switch.default (λ out d. lower_statement f (record w { out = out }) (view_stmt b) d) code) c.deref-in-Switch.ensures
    ∙ sym e)
    c.lower_switch.ensures

pub lower_statement-returns-in-Label : goal.lower_statement-returns-in-Label
lower_statement-returns-in-Label t c =
    let k = c.args.s.now.token in
    let f = view_frame c.args.frame in
    let w = c.args.ways in
    let code = c.args.code.now in
    let e = ap (λ x. lower_statement f w (view_stmt_form k x) code) c.in-Label.is ∙ label_is f w k c.in-Label.labels c.in-Label.body code in
    subst (λ d. OnOk c.lower_labelled.result (c.lower_labelled.new.code ≡ d))
    (ap (λ l. lower_statement f w (view_stmt c.deref-in-Label-2.result.now) (begun l code)) c.deref-in-Label.ensures.value
    ∙ ap (λ b. lower_statement f w (view_stmt b) (begun c.in-Label.labels.items code)) c.deref-in-Label-2.ensures
    ∙ sym e)
    c.lower_labelled.ensures

pub lower_statement-returns-in-Goto : goal.lower_statement-returns-in-Goto
lower_statement-returns-in-Goto t c =
    let k = c.args.s.now.token in
    let f = view_frame c.args.frame in
    let w = c.args.ways in
    let code = c.args.code.now in
    let e = ap (λ x. lower_statement f w (view_stmt_form k x) code) c.in-Goto.is ∙ goto_is f w k c.in-Goto.label code in
    subst (λ d. OnOk c.lower_goto.result (c.lower_goto.new.code ≡ d)) (sym e) c.lower_goto.ensures

pub lower_statement-returns-in-Break : goal.lower_statement-returns-in-Break
lower_statement-returns-in-Break t c =
    let k = c.args.s.now.token in
    let f = view_frame c.args.frame in
    let w = c.args.ways in
    let code = c.args.code.now in
    let e = ap (λ x. lower_statement f w (view_stmt_form k x) code) c.in-Break.is ∙ break_is f w k code in
    subst (λ d. OnOk c.leave.result (c.leave.new.self ≡ d)) (sym e) c.leave.ensures

pub lower_statement-returns-in-Continue : goal.lower_statement-returns-in-Continue
lower_statement-returns-in-Continue t c =
    let k = c.args.s.now.token in
    let f = view_frame c.args.frame in
    let w = c.args.ways in
    let code = c.args.code.now in
    let e = ap (λ x. lower_statement f w (view_stmt_form k x) code) c.in-Continue.is ∙ continue_is f w k code in
    subst (λ d. OnOk c.leave-in-Continue.result (c.leave-in-Continue.new.self ≡ d)) (sym e) c.leave-in-Continue.ensures

pub lower_statement-returns-in-Return : goal.lower_statement-returns-in-Return
lower_statement-returns-in-Return t c =
    let k = c.args.s.now.token in
    let f = view_frame c.args.frame in
    let w = c.args.ways in
    let code = c.args.code.now in
    let e = ap (λ x. lower_statement f w (view_stmt_form k x) code) c.in-Return.is ∙ return_is f w k c.in-Return.e code in
    subst (λ d. OnOk c.lower_return.result (c.lower_return.new.code ≡ d)) (sym e) c.lower_return.ensures

pub lower_statement-returns-in_ok-joins-in-If : goal.lower_statement-returns-in_ok-joins-in-If
lower_statement-returns-in_ok-joins-in-If t c =
    let k = c.args.s.now.token in
    let f = view_frame c.args.frame in
    let w = c.args.ways in
    let code = c.args.code.now in
    let arms = c.in-If.arms in
    let o = c.in-If.otherwise in
    let more = c.is_some.result in
    let joins = c.in_ok-joins-in-If.joins.items in
    let behind = c.lower_arms.new.code in
    let v = c.deref-in-If.ensures.value in
    let m : more ≡ is_some o = first_of (cc, search rules) in
    let j : joins ≡ joins_of f w more (view_arms arms.items) code = c.in_ok-joins-in-If.ensures.joins ∙ ap (λ l. joins_of f w more (view_arms l) code) v in
    let b : behind ≡ arms_code f w more (view_arms arms.items) code = c.in_ok-joins-in-If.ensures.code ∙ ap (λ l. arms_code f w more (view_arms l) code) v in
    let e = ap (λ x. lower_statement f w (view_stmt_form k x) code) c.in-If.is ∙ if_is f w k arms o code in
    subst (λ d. OnOk c.close_if.result (c.close_if.new.code ≡ d)) (if_whole f w (view_arms arms.items) o more joins code behind (else_code f w (view_otherwise o) behind) m j b refl ∙ sym e) c.close_if.ensures

pub lower_arms-loop-arm-preserved : goal.lower_arms-loop-arm-preserved
lower_arms-loop-arm-preserved t c =
    let f = view_frame c.args.frame in
    let w = c.args.ways in
    let more = c.args.is_more in
    let all = c.args.arms.now in
    let arm = c.arm-item.result in
    let i = c.loop-arm.arm-index in
    let code = c.loop-arm.code in
    let after = c.lower_arm.new.code in
    let h = c.loop-arm-test.true in
    let e = c.arm-item.is in
    let b = c.is_followed-is_behind.result in
    let n : c.loop-arm.left - 1 ≡ length (drop (i + 1) all) = omega (arith, length-drop (i + 1) all) in
    let k : b ≡ is_followed more (view_arms (drop (i + 1) all)) = c.is_followed-is_behind.ensures ∙ ap (λ m. more || nat_lt 0 m) n ∙ sym (followed more (drop (i + 1) all)) in
    let g = c.in_ok-join.ensures.code in
    let j = c.in_ok-join.ensures.join in (
      arms_on f w more all arm i b code after (arms_code f w more (view_arms all) c.args.code.now) h e k g c.loop-arm.invariant.0,
      ap (λ l. l ++ joins_of f w more (view_arms (drop (i + 1) all)) after) c.in_ok-push.ensures.items
          ∙ joins_on f w more all arm i b c.loop-arm.joins.items (joins_of f w more (view_arms all) c.args.code.now) c.in_ok-join.join code after h e k g j c.loop-arm.invariant.1,
      omega arith,
    )
