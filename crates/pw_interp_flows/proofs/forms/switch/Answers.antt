use Rattle.std.proofs.Common.{ap, sym, ◌∙◌}
use Rattle.pw_typed.specs.Views.{view_expr, view_stmt}
use Rattle.pw_cmean.specs.Acts.{◌>>=◌}
use Rattle.pw_cmean.specs.Execution.{after_switch, meaning}
use Rattle.pw_cmean.specs.SourceRun.{calls}
use Rattle.pw_interp_todo.specs.Flows.{view_entry}
use Rattle.pw_interp_flows.proofs.Forming.{switch_front, switch_label}
use Rattle.pw_interp_flows.proofs.forms.switch.Goals as goal

pub returns-in-Front : goal.returns-in-Front
returns-in-Front c t cases default is e n s =
    ap (λ at. meaning (view_stmt c.args.s.now) (view_entry at) (calls e.world n) e s) c.in-Front.is
    ∙ switch_front e n s t (view_expr c.args.e.now) cases default (view_stmt c.args.body.now) is

pub returns-in-AtLabel : goal.returns-in-AtLabel
returns-in-AtLabel c t cases default is e n s =
    ap (λ at. meaning (view_stmt c.args.s.now) (view_entry at) (calls e.world n) e s) c.in-AtLabel.is
    ∙ switch_label e n s t (view_expr c.args.e.now) cases default (view_stmt c.args.body.now) _ is
    ∙ ap (λ at. (meaning (view_stmt c.args.body.now) (view_entry at) (calls e.world n) e >>= after_switch) s) (sym c.in-AtLabel.is)
