use Rattle.std.proofs.Common.{[], ◌∷◌, refl, ap, sym, ◌∙◌}
use Rattle.pw_check_state.specs.EntityViews.{view_linked}
use Rattle.pw_check_state.specs.StateViews.{view_state}
use Rattle.pw_check_walk.specs.Found.{found}
use Rattle.pw_check_rules.specs.Limits.{completed}
use Rattle.pw_check_rules.specs.Modules.{end_spot}
use Rattle.pw_types.specs.Views.{view_qtype, view_type}
use Rattle.pw_check_walk.specs.Causes.{CompleteAtEnd}
use Rattle.pw_check.proofs.ModuleLaws.{no_cause, some_cause}
use Rattle.pw_check.proofs.modules.end_cause.Goals as goal

pub returns-then-not-must_be_complete : goal.returns-then-not-must_be_complete
returns-then-not-must_be_complete c =
    c.none.ensures
    ∙ no_cause (view_state c.args.state.now) (view_linked c.args.linked.now) (view_qtype c.final_type-ty.result.now) c.final_type-ty.ensures
    (sym c.must_be_complete.ensures ∙ c.if-not-must_be_complete.true)

pub returns : goal.returns
returns c =
    let s = view_state c.args.state.now in
    let l = view_linked c.args.linked.now in
    c.completed.ensures CompleteAtEnd refl
    ∙ ap (λ r. found (completed r (end_spot l) CompleteAtEnd (view_type c.final_type-ty.result.now.ty) ∷ [])) c.records.ensures
    ∙ some_cause s l (view_qtype c.final_type-ty.result.now) c.final_type-ty.ensures
    (sym c.must_be_complete.ensures ∙ c.if-not-must_be_complete.false)
