use Rattle.std.proofs.Common.{◌≡◌, ap, sym, ◌∙◌, rules}
use Rattle.pw_check_state.specs.StateViews.{view_state}
use Rattle.pw_check_rules.specs.Declarations.{specified_rule}
use Rattle.pw_check_rules.specs.Leaves.{first_of_declaration}
use Rattle.pw_tree.specs.Views.{view_declarator, view_specifiers}
use Rattle.pw_check_walk.proofs.CallLaws.{step_ok, step_err}
use Rattle.pw_check_labels.proofs.Steps.{same}
use Rattle.pw_check_heads.specs.Parts.{head_rule}
use Rattle.pw_check_heads.proofs.heads.head_rule.Goals as goal

pub returns-in_err-specified : goal.returns-in_err-specified
unfolding head_rule
returns-in_err-specified g c =
    let f = c.args.f.now in
    let at : c.first_of_declaration-first.result ≡ first_of_declaration (view_specifiers f.specifiers.items) (view_declarator f.declarator) =
    c.first_of_declaration-first.ensures ∙ ap (λ ss. first_of_declaration (view_specifiers ss) (view_declarator f.declarator)) c.deref.ensures.value in
    step_err _
    (same (sym (λ j. specified_rule (view_specifiers (c.deref-2.ensures.value j)) (at j) (view_state c.args.state.now))) c.specifiers.ensures)
    c.in_err-specified.was (search rules)

pub returns-in_err-declared : goal.returns-in_err-declared
unfolding head_rule
returns-in_err-declared g c =
    let f = c.args.f.now in
    let at : c.first_of_declaration-first.result ≡ first_of_declaration (view_specifiers f.specifiers.items) (view_declarator f.declarator) =
    c.first_of_declaration-first.ensures ∙ ap (λ ss. first_of_declaration (view_specifiers ss) (view_declarator f.declarator)) c.deref.ensures.value in
    step_ok _
    (same (sym (λ j. specified_rule (view_specifiers (c.deref-2.ensures.value j)) (at j) (view_state c.args.state.now))) c.specifiers.ensures)
    c.in_ok-specified.was
    (step_err _ c.declarator.ensures c.in_err-declared.was (search rules))

pub returns : goal.returns
unfolding head_rule
returns g c =
    let f = c.args.f.now in
    let at : c.first_of_declaration-first.result ≡ first_of_declaration (view_specifiers f.specifiers.items) (view_declarator f.declarator) =
    c.first_of_declaration-first.ensures ∙ ap (λ ss. first_of_declaration (view_specifiers ss) (view_declarator f.declarator)) c.deref.ensures.value in
    step_ok _
    (same (sym (λ j. specified_rule (view_specifiers (c.deref-2.ensures.value j)) (at j) (view_state c.args.state.now))) c.specifiers.ensures)
    c.in_ok-specified.was
    (step_ok _ c.declarator.ensures c.in_ok-declared.was c.head_of.ensures)
