use Rattle.std.proofs.Common.{ap, sym, ◌∙◌}
use Rattle.pw_typed.specs.Views.{view_cases, view_stmt}
use Rattle.pw_cmean.specs.Execution.{At_label, meaning, switch_to}
use Rattle.pw_cmean.specs.SourceRun.{calls}
use Rattle.pw_interp_flows.proofs.SwitchLaws.{switched_none, switched_some}
use Rattle.pw_interp_flows.proofs.uses.switched.Goals as goal

pub returns-in-Some : goal.returns-in-Some
returns-in-Some c e n s =
    let b = c.in-Some in
    let cs = calls e.world n in
    ap (λ act. act s) (switched_some e cs c.args.value (view_stmt c.args.s.now) (view_cases b.cases.now) b.default (view_stmt b.body.now) (sym b.ensures))
    ∙ ap (λ o. switch_to o (λ l. meaning (view_stmt b.body.now) (At_label l) cs e) s) (sym c.label_for.ensures)
    ∙ c.switch_to.ensures e n s

pub returns-in-None : goal.returns-in-None
returns-in-None c e n s = ap (λ act. act s) (switched_none e (calls e.world n) c.args.value (view_stmt c.args.s.now) (sym c.in-None.ensures))
