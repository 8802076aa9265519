use Rattle.std.proofs.Common.{rules, ap, refl}
use Rattle.pw_check_state.specs.StateViews.{view_state}
use Rattle.pw_tree.specs.Views.{view_declarator}
use Rattle.pw_check_walk.proofs.CallLaws.{same_call, step_ok, step_err}
use Rattle.pw_check_walk.specs.Walks.{outcome}
use Rattle.pw_check_primary.proofs.Forms.{named_form}
use Rattle.pw_check_primary.proofs.names.type_name.Goals as goal

pub returns-in_err-specified : goal.returns-in_err-specified
returns-in_err-specified g c =
    same_call _ _ _ _ _ (ap outcome (named_form _ _ (view_declarator c.args.named.now.declarator) _ (view_state c.args.state.now) c.deref-list.ensures.value c.first_of_declaration-first.ensures))
    (step_err _ c.specifiers.ensures c.in_err-specified.was (search rules))

pub returns-in_err-declared : goal.returns-in_err-declared
returns-in_err-declared g c =
    same_call _ _ _ _ _ (ap outcome (named_form _ _ (view_declarator c.args.named.now.declarator) _ (view_state c.args.state.now) c.deref-list.ensures.value c.first_of_declaration-first.ensures))
    (step_ok _ c.specifiers.ensures c.in_ok-specified.was (step_err _ c.declarator.ensures c.in_err-declared.was (search rules)))

pub returns-in_err-ty : goal.returns-in_err-ty
returns-in_err-ty g c =
    same_call _ _ _ _ _ (ap outcome (named_form _ _ (view_declarator c.args.named.now.declarator) _ (view_state c.args.state.now) c.deref-list.ensures.value c.first_of_declaration-first.ensures))
    (step_ok _ c.specifiers.ensures c.in_ok-specified.was
    (step_ok _ c.declarator.ensures c.in_ok-declared.was (step_err _ c.named_type.ensures c.in_err-ty.was (search rules))))

pub returns : goal.returns
unfolding outcome
returns g c =
    same_call _ _ _ _ _ (ap outcome (named_form _ _ (view_declarator c.args.named.now.declarator) _ (view_state c.args.state.now) c.deref-list.ensures.value c.first_of_declaration-first.ensures))
    (step_ok _ c.specifiers.ensures c.in_ok-specified.was
    (step_ok _ c.declarator.ensures c.in_ok-declared.was (step_ok _ c.named_type.ensures c.in_ok-ty.was (record { made = refl; told = tt }))))
