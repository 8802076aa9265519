use Rattle.std.proofs.Common.{rules, subst, sym}
use Rattle.pw_value.specs.declared.value.Value.TheVariants as V
use Rattle.pw_types.specs.TypeTrees.{Int}
use Rattle.pw_types.specs.Views.{view_type}
use Rattle.pw_types.specs.declared.kind.IntKind.TheVariants as K
use Rattle.pw_cmean.specs.Evaluation.{update}
use Rattle.pw_interp_state.specs.Shown.{view_state}
use Rattle.pw_interp_calls.specs.Answers.{Answers}
use Rattle.pw_interp_calls.specs.Views.{view_env}
use Rattle.pw_interp_calls.proofs.AnswerLaws.{then_ok, then_err, gives_as}
use Rattle.pw_interp_acts.specs.Results.{step_in}
use Rattle.pw_interp_acts.proofs.updates.step_in.Goals as goal

pub returns-in_err-old : goal.returns-in_err-old
unfolding step_in
returns-in_err-old c = then_err _ c.load.ensures.answers c.in_err-old.was (search rules)

pub returns-in_err-value : goal.returns-in_err-value
unfolding step_in
returns-in_err-value c = then_ok _ c.load.ensures.answers c.in_ok-old.was (then_err _ (c.convert.ensures.answers _) c.in_err-value.was (search rules))

pub returns-in_err-new : goal.returns-in_err-new
unfolding step_in view_type
returns-in_err-new c =
    let e = view_env c.args.env.now in
    let updated =
    subst (λ o. Answers (λ x. x) e.world (update e c.args.token (view_type c.args.ty.now) (view_type c.args.working.now) c.args.place o (Int K.Int) c.in_ok-value.value (V.Num 1)) (view_state c.args.state.now) c.update.result (view_state c.update.new.state))
    c.step_operator-operator.ensures c.update.ensures in
    then_ok _ c.load.ensures.answers c.in_ok-old.was
    (then_ok _ (c.convert.ensures.answers _) c.in_ok-value.was (then_err _ updated c.in_err-new.was (search rules)))

pub returns : goal.returns
unfolding step_in view_type
returns c =
    let e = view_env c.args.env.now in
    let updated =
    subst (λ o. Answers (λ x. x) e.world (update e c.args.token (view_type c.args.ty.now) (view_type c.args.working.now) c.args.place o (Int K.Int) c.in_ok-value.value (V.Num 1)) (view_state c.args.state.now) c.update.result (view_state c.update.new.state))
    c.step_operator-operator.ensures c.update.ensures in
    then_ok _ c.load.ensures.answers c.in_ok-old.was
    (then_ok _ (c.convert.ensures.answers _) c.in_ok-value.was
    (then_ok _ updated c.in_ok-new.was (gives_as c.step_result.result (sym c.step_result.ensures))))
