use Rattle.std.proofs.Common.{ap, Some, ◌∙◌}
use Rattle.pw_typed.specs.Views.{view_expr, view_optional}
use Rattle.pw_cmean.specs.Acts.{give}
use Rattle.pw_cmean.specs.Execution.{Returns}
use Rattle.pw_cmean.specs.SourceRun.{calls}
use Rattle.pw_interp_flows.specs.Forms.{return_act}
use Rattle.pw_interp_flows.proofs.Forming.{value_is}
use Rattle.pw_interp_flows.proofs.forms.returning.Goals as goal

pub returns-in-Some : goal.returns-in-Some
unfolding return_act
returns-in-Some c env n s =
    ap (λ o. return_act (view_optional o) (calls env.world n) env s) c.in-Some.is ∙ value_is env n s (view_expr c.in-Some.e) (λ v. give (Returns (Some v)))

pub returns-in-None : goal.returns-in-None
unfolding return_act
returns-in-None c env n s = ap (λ o. return_act (view_optional o) (calls env.world n) env s) c.in-None.is
