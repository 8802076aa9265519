use Rattle.std.proofs.Common.{Err, ap, sym, ◌∙◌}
use mathlib.Core.Logic.{inr}
use Rattle.pw_check_state.specs.StateViews.{view_state}
use Rattle.pw_tree.specs.Views.{view_expr, view_words}
use Rattle.pw_check_walk.specs.Walks.{outcome}
use Rattle.pw_check_walk.proofs.CallLaws.{same_call}
use Rattle.pw_check_rules.specs.Leaves.{string_rule}
use Rattle.pw_check_rules.specs.Phrases.{expr_rule}
use Rattle.pw_check_primary.proofs.primaries.primary.Goals as goal

pub returns-in-Identifier : goal.returns-in-Identifier
unfolding expr_rule view_expr
returns-in-Identifier g c =
    same_call _ _ _ _ _
    (ap (λ e. outcome (expr_rule (view_expr e) (view_state c.args.state.now))) c.in-Identifier.is)
    c.identifier_rule.ensures

pub returns-in-Number : goal.returns-in-Number
unfolding expr_rule view_expr
returns-in-Number g c =
    same_call _ _ _ _ _
    (ap (λ e. outcome (expr_rule (view_expr e) (view_state c.args.state.now))) c.in-Number.is)
    c.number_rule.ensures

pub returns-in-Character : goal.returns-in-Character
unfolding expr_rule view_expr
returns-in-Character g c =
    same_call _ _ _ _ _
    (ap (λ e. outcome (expr_rule (view_expr e) (view_state c.args.state.now))) c.in-Character.is)
    c.character_rule.ensures

pub returns-in-Strings : goal.returns-in-Strings
unfolding expr_rule view_expr
returns-in-Strings g c =
    same_call _ _ _ _ _
    (ap (λ e. outcome (expr_rule (view_expr e) (view_state c.args.state.now))) c.in-Strings.is
    ∙ ap (λ ws. outcome (string_rule (view_words ws) (view_state c.args.state.now))) (sym c.deref.ensures.value))
    c.string_rule.ensures

pub returns-in-Floating : goal.returns-in-Floating
unfolding expr_rule view_expr outcome
returns-in-Floating g c =
    record {
      made = tt;
      told = inr (ap (λ e. outcome (expr_rule (view_expr e) (view_state c.args.state.now))) c.in-Floating.is ∙ ap Err (sym c.fault.ensures));
    }

pub returns-in-Wide : goal.returns-in-Wide
unfolding expr_rule view_expr outcome
returns-in-Wide g c =
    record {
      made = tt;
      told = inr (ap (λ e. outcome (expr_rule (view_expr e) (view_state c.args.state.now))) c.in-Wide.is ∙ ap Err (sym c.fault-in-Wide.ensures));
    }

pub returns-in-Paren : goal.returns-in-Paren
unfolding expr_rule view_expr
returns-in-Paren g c =
    same_call _ _ _ _ _
    (ap (λ e. outcome (expr_rule (view_expr e) (view_state c.args.state.now))) c.in-Paren.is
    ∙ ap (λ x. outcome (expr_rule (view_expr x) (view_state c.args.state.now))) (sym c.deref-in-Paren.ensures))
    c.expr.ensures
