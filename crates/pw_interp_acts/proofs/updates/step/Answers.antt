use Rattle.std.proofs.Common.{sym, ◌∙◌}
use Rattle.pw_types.specs.Views.{view_type}
use Rattle.pw_interp_calls.specs.Views.{view_env}
use Rattle.pw_interp_calls.proofs.AnswerLaws.{same}
use Rattle.pw_interp_acts.proofs.NodeLaws.{step_by, step_integer, step_plain}
use Rattle.pw_interp_acts.proofs.updates.step.Goals as goal

pub returns-in-Some : goal.returns-in-Some
unfolding view_type
returns-in-Some c =
    let ty = view_type c.args.ty.now in
    same
    (step_by (view_env c.args.env.now) c.args.token c.args.op ty _ c.args.place (step_integer ty c.in-Some.kind (sym c.working_kind.ensures ∙ c.in-Some.is)))
    c.step_in.ensures

pub returns-in-None : goal.returns-in-None
returns-in-None c =
    let ty = view_type c.args.ty.now in
    same
    (step_by (view_env c.args.env.now) c.args.token c.args.op ty ty c.args.place (step_plain ty (sym c.working_kind.ensures ∙ c.in-None.is)))
    c.step_in-in-None.ensures
