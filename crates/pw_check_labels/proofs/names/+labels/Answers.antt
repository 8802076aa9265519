use Rattle.std.proofs.Common.{◌≡◌, ◌++◌, OnOk, ap, sym, subst, ◌∙◌, append_assoc}
use Rattle.pw_check_rules.specs.Statements.{labels_in, labels_in_alternative, labels_in_list}
use Rattle.pw_tree.specs.Trees.{NoElse, Otherwise}
use Rattle.pw_tree.specs.Views.{view_else_ifs, view_otherwise, view_stmt, view_stmts}
use Rattle.pw_check_labels.proofs.LabelNames.{names_on, names_end, names_two, list_on, list_none, arms_on, arms_none, alternative_split, otherwise_labels, block_labels, if_labels}
use Rattle.pw_check_labels.proofs.names.+labels.Goals as goal

pub add_labels-returns-in-Block : goal.add_labels-returns-in-Block
add_labels-returns-in-Block t c =
    subst (λ xs. OnOk c.add_labels_of_all.result (c.add_labels_of_all.new.names ≡ c.args.names.now ++ xs))
    (ap (λ ss. labels_in_list (view_stmts ss)) c.deref.ensures.value ∙ sym (ap (λ s. labels_in (view_stmt s)) c.in-Block.is ∙ block_labels c.in-Block.block (c.statements_show_their_lists.ensures.compound c.in-Block.block)))
    c.add_labels_of_all.ensures

pub add_labels-returns-in-None : goal.add_labels-returns-in-None
add_labels-returns-in-None t c =
    let b = c.in-If in
    names_two c.args.names.now c.add_labels-in-If.new.names c.add_labels_of_arms.new.names _ _
    (c.in_ok-add_labels-in-If.ensures ∙ ap (λ s. c.args.names.now ++ labels_in (view_stmt s)) c.deref-in-If.ensures)
    (c.in_ok-add_labels_of_arms-in-If.ensures ∙ ap (λ es. c.add_labels-in-If.new.names ++ labels_in_alternative (view_else_ifs es NoElse)) c.deref-in-If-2.ensures.value)
    ∙ ap (λ xs. c.args.names.now ++ xs)
    (sym (ap (λ s. labels_in (view_stmt s)) b.is ∙ if_labels b.token b.condition b.chosen b.else_ifs b.otherwise (c.statements_show_their_lists.ensures.ifs b.token b.condition b.chosen b.else_ifs b.otherwise)
    ∙ ap (λ o. labels_in (view_stmt b.chosen.value) ++ labels_in_alternative (view_else_ifs b.else_ifs.items (view_otherwise o))) c.in-None.is))

pub add_labels-returns-in-Some : goal.add_labels-returns-in-Some
add_labels-returns-in-Some t c =
    let b = c.in-If in
    let last = labels_in (view_stmt c.in-Some.last.value) in
    let mine = labels_in (view_stmt b.chosen.value) in
    let arms = labels_in_alternative (view_else_ifs b.else_ifs.items NoElse) in
    let e : c.add_labels_of_arms.new.names ≡ c.args.names.now ++ (mine ++ arms) =
    names_two c.args.names.now c.add_labels-in-If.new.names c.add_labels_of_arms.new.names mine arms
    (c.in_ok-add_labels-in-If.ensures ∙ ap (λ s. c.args.names.now ++ labels_in (view_stmt s)) c.deref-in-If.ensures)
    (c.in_ok-add_labels_of_arms-in-If.ensures ∙ ap (λ es. c.add_labels-in-If.new.names ++ labels_in_alternative (view_else_ifs es NoElse)) c.deref-in-If-2.ensures.value) in
    let whole : labels_in (view_stmt c.args.stmt.now) ≡ mine ++ (arms ++ last) =
    ap (λ s. labels_in (view_stmt s)) b.is ∙ if_labels b.token b.condition b.chosen b.else_ifs b.otherwise (c.statements_show_their_lists.ensures.ifs b.token b.condition b.chosen b.else_ifs b.otherwise)
    ∙ ap (λ o. mine ++ labels_in_alternative (view_else_ifs b.else_ifs.items (view_otherwise o))) c.in-Some.is
    ∙ ap (λ xs. mine ++ xs)
    (alternative_split b.else_ifs.items (Otherwise (view_stmt c.in-Some.last.value)) ∙ ap (λ xs. arms ++ xs) (otherwise_labels (view_stmt c.in-Some.last.value))) in
    subst (λ xs. OnOk c.add_labels-in-Some.result (c.add_labels-in-Some.new.names ≡ xs))
    (ap (λ s. c.add_labels_of_arms.new.names ++ labels_in (view_stmt s)) c.deref-in-Some.ensures
    ∙ ap (λ xs. xs ++ last) e
    ∙ append_assoc c.args.names.now (mine ++ arms) last
    ∙ ap (λ xs. c.args.names.now ++ xs) (append_assoc mine arms last ∙ sym whole))
    c.add_labels-in-Some.ensures

pub add_labels_of_all-loop-stmt-preserved : goal.add_labels_of_all-loop-stmt-preserved
add_labels_of_all-loop-stmt-preserved t c =
    names_on (λ ss. labels_in_list (view_stmts ss)) (λ s. labels_in (view_stmt s)) list_on c.args.statements.now c.loop-stmt.stmt-index _ _ _ c.stmt-item.result
    c.loop-stmt-test.true c.stmt-item.is c.loop-stmt.invariant c.in_ok-add_labels.ensures

pub add_labels_of_all-returns : goal.add_labels_of_all-returns
add_labels_of_all-returns t c =
    names_end (λ ss. labels_in_list (view_stmts ss)) (λ s. labels_in (view_stmt s)) list_on c.args.statements.now c.loop-stmt.stmt-index _ _
    c.loop-stmt-test.false list_none c.loop-stmt.invariant

pub add_labels_of_arms-loop-else_if-preserved : goal.add_labels_of_arms-loop-else_if-preserved
add_labels_of_arms-loop-else_if-preserved t c =
    names_on (λ es. labels_in_alternative (view_else_ifs es NoElse)) (λ e. labels_in (view_stmt e.chosen)) (arms_on NoElse) c.args.else_ifs.now c.loop-else_if.else_if-index _ _ _ c.else_if-item.result
    c.loop-else_if-test.true c.else_if-item.is c.loop-else_if.invariant c.in_ok-add_labels.ensures

pub add_labels_of_arms-returns : goal.add_labels_of_arms-returns
add_labels_of_arms-returns t c =
    names_end (λ es. labels_in_alternative (view_else_ifs es NoElse)) (λ e. labels_in (view_stmt e.chosen)) (arms_on NoElse) c.args.else_ifs.now c.loop-else_if.else_if-index _ _
    c.loop-else_if-test.false arms_none c.loop-else_if.invariant
