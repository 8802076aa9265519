use Rattle.std.proofs.Common.{sym, ap, ◌∙◌}
use Rattle.pw_typed.specs.Views.{view_exprs}
use Rattle.pw_cmean.specs.Acts.{give, go_on, ◌>>=◌}
use Rattle.pw_cmean.specs.Evaluation.{values_of}
use Rattle.pw_cmean.specs.SourceRun.{calls}
use Rattle.pw_interp_todo.specs.Asking.{asked_act}
use Rattle.pw_interp_todo.specs.Operands.{next_act}
use Rattle.pw_interp_todo.specs.Resuming.{Gave, Listed, resume, control_act}
use Rattle.pw_interp_pushes.proofs.Pushing.{behind_operand, behind_arguments}
use Rattle.pw_interp_pushes.proofs.pushes.push_next.Goals as goal

pub returns-in-Gave : goal.returns-in-Gave
unfolding control_act give ◌>>=◌ go_on
returns-in-Gave c e n rest s = ap (λ x. (next_act x e n >>= λ r. resume c.args.todo.now.items rest e n (Gave r)) s) c.in-Gave.is

pub returns-in-Ask : goal.returns-in-Ask
unfolding control_act
returns-in-Ask c e n rest s = ap (λ x. (next_act x e n >>= λ r. resume c.args.todo.now.items rest e n (Gave r)) s) c.in-Ask.is

pub returns-in_ok-push-in-Behind : goal.returns-in_ok-push-in-Behind
unfolding control_act
returns-in_ok-push-in-Behind c e n rest s =
    let todo = c.args.todo.now.items in
    let asked = c.in-Behind.asked in
    let operand = c.in-Behind.operand in
    ap (λ x. (next_act x e n >>= λ r. resume todo rest e n (Gave r)) s) c.in-Behind.is
    ∙ behind_operand todo rest e n asked operand s
    ∙ ap (λ items. (asked_act asked e n >>= λ r. resume items rest e n (Gave r)) s) (sym c.in_ok-push-in-Behind.ensures.items)

pub returns-in_ok-push-in-Arguments : goal.returns-in_ok-push-in-Arguments
unfolding control_act
returns-in_ok-push-in-Arguments c e n rest s =
    let todo = c.args.todo.now.items in
    let b = c.in-Arguments in
    let act = values_of (view_exprs b.args.now) b.token (calls e.world n) e in
    ap (λ x. (next_act x e n >>= λ r. resume todo rest e n (Gave r)) s) b.is
    ∙ behind_arguments todo rest e n act b.callee s
    ∙ ap (λ items. (act >>= λ vs. resume items rest e n (Listed vs)) s) (sym c.in_ok-push-in-Arguments.ensures.items)
