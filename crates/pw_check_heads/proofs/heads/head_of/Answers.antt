use Rattle.std.proofs.Common.{[], unwrap_or, refl, ap, sym, ◌∙◌, rules}
use Rattle.pw_check_state.specs.PhraseViews.{view_derivations, view_name}
use Rattle.pw_check_rules.specs.Functions.{ends_in_function}
use Rattle.pw_tree.specs.Trees.{Word}
use Rattle.pw_types.specs.Views.{view_qtype}
use Rattle.pw_check_walk.proofs.CallLaws.{step_ok, step_err}
use Rattle.pw_check_labels.proofs.Steps.{ends}
use Rattle.pw_check_heads.specs.Parts.{head_of}
use Rattle.pw_check_heads.proofs.HeadLaws.{built_of, head_shown}
use Rattle.pw_check_heads.proofs.heads.head_of.Goals as goal

pub returns-in_err-ty : goal.returns-in_err-ty
unfolding head_of
returns-in_err-ty c = step_err _ (built_of _ _ _ c.spot_of-spot.ensures c.built.ensures) c.in_err-ty.was (search rules)

pub returns : goal.returns
unfolding head_of
returns c =
    let nobody : Word = record { token = 0; text = [] } in
    step_ok _ (built_of _ _ _ c.spot_of-spot.ensures c.built.ensures) c.in_ok-ty.was
    (ends
    (head_shown c.args.specified.storage c.args.specified.tag (view_qtype c.in_ok-ty.ty)
    (ap (λ n. unwrap_or (view_name n) nobody) (sym c.in-Some.is))
    c.bindings_of.ensures
    (c.ends_in_function-ends.ensures ∙ ap (λ ds. ends_in_function (view_derivations ds)) c.deref.ensures.value))
    refl)
