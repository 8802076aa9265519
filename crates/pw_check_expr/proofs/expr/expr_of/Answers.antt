use Rattle.std.proofs.Common.{ap, sym, ◌∙◌}
use Rattle.pw_check_state.specs.StateViews.{view_state}
use Rattle.pw_tree.specs.Trees as tree
use Rattle.pw_tree.specs.Views.{view_declarator, view_expr, view_operations, view_postfixes, view_specifiers}
use Rattle.pw_check_walk.specs.Walks.{outcome}
use Rattle.pw_check_walk.proofs.CallLaws.{same_call}
use Rattle.pw_check_rules.specs.Phrases.{expr_rule}
use Rattle.pw_check_expr.proofs.expr.expr_of.Goals as goal

pub returns-in-Postfix : goal.returns-in-Postfix
returns-in-Postfix g c =
    same_call _ _ _ _ _
    (ap (λ e. outcome (expr_rule (view_expr e) (view_state c.args.state.now))) c.in-Postfix.is
    ∙ ap (λ e. outcome (expr_rule e (view_state c.args.state.now))) (c.expressions_show_their_lists.ensures.postfix c.in-Postfix.operand c.in-Postfix.operations)
    ∙ ap (λ x. outcome (expr_rule (tree.Postfix (view_expr c.in-Postfix.operand.value) (view_postfixes x)) (view_state c.args.state.now))) (sym c.deref-in-Postfix.ensures.value)
    ∙ ap (λ x. outcome (expr_rule (tree.Postfix (view_expr x) (view_postfixes c.deref-in-Postfix.result.now)) (view_state c.args.state.now))) (sym c.deref.ensures))
    c.postfixed.ensures

pub returns-in-SizeofType : goal.returns-in-SizeofType
returns-in-SizeofType g c =
    same_call _ _ _ _ _
    (ap (λ e. outcome (expr_rule (view_expr e) (view_state c.args.state.now))) c.in-SizeofType.is
    ∙ ap (λ e. outcome (expr_rule e (view_state c.args.state.now))) (c.expressions_show_their_lists.ensures.size c.in-SizeofType.token c.in-SizeofType.named)
    ∙ ap (λ x. outcome (expr_rule (tree.SizeofType c.in-SizeofType.token (view_specifiers x.specifiers.items) (view_declarator x.declarator)) (view_state c.args.state.now))) (sym c.deref-in-SizeofType.ensures))
    c.size_of_type.ensures

pub returns-in-Cast : goal.returns-in-Cast
returns-in-Cast g c =
    same_call _ _ _ _ _
    (ap (λ e. outcome (expr_rule (view_expr e) (view_state c.args.state.now))) c.in-Cast.is
    ∙ ap (λ e. outcome (expr_rule e (view_state c.args.state.now))) (c.expressions_show_their_lists.ensures.cast c.in-Cast.token c.in-Cast.named c.in-Cast.operand)
    ∙ ap (λ x. outcome (expr_rule (tree.Cast c.in-Cast.token (view_specifiers x.specifiers.items) (view_declarator x.declarator) (view_expr c.in-Cast.operand.value)) (view_state c.args.state.now))) (sym c.deref-in-Cast.ensures)
    ∙ ap (λ x. outcome (expr_rule (tree.Cast c.in-Cast.token (view_specifiers c.deref-in-Cast.result.now.specifiers.items) (view_declarator c.deref-in-Cast.result.now.declarator) (view_expr x)) (view_state c.args.state.now))) (sym c.deref-in-Cast-2.ensures))
    c.cast.ensures

pub returns-in-Chain : goal.returns-in-Chain
returns-in-Chain g c =
    same_call _ _ _ _ _
    (ap (λ e. outcome (expr_rule (view_expr e) (view_state c.args.state.now))) c.in-Chain.is
    ∙ ap (λ e. outcome (expr_rule e (view_state c.args.state.now))) (c.expressions_show_their_lists.ensures.chain c.in-Chain.first c.in-Chain.rest)
    ∙ ap (λ x. outcome (expr_rule (tree.Chain (view_expr c.in-Chain.first.value) (view_operations x)) (view_state c.args.state.now))) (sym c.deref-in-Chain-2.ensures.value)
    ∙ ap (λ x. outcome (expr_rule (tree.Chain (view_expr x) (view_operations c.deref-in-Chain-2.result.now)) (view_state c.args.state.now))) (sym c.deref-in-Chain.ensures))
    c.chain.ensures
