use Rattle.std.proofs.Common.{sym, ap, ◌∙◌}
use Rattle.pw_typed.specs.Views.{view_expr, view_exprs}
use Rattle.pw_cmean.specs.Acts.{give, go_on, ◌>>=◌}
use Rattle.pw_cmean.specs.Evaluation.{answer_of, values_of}
use Rattle.pw_cmean.specs.SourceRun.{calls}
use Rattle.pw_interp_todo.specs.Asking.{answered}
use Rattle.pw_interp_todo.specs.Resuming.{Gave, Listed, resume, control_act}
use Rattle.pw_interp_pushes.proofs.Pushing.{behind_first, nothing_in}
use Rattle.pw_interp_pushes.proofs.arguments.push_arguments.Goals as goal

pub returns-in_ok-push-in-Some : goal.returns-in_ok-push-in-Some
unfolding control_act
returns-in_ok-push-in-Some c e n rest s =
    let todo = c.args.todo.now.items in
    let b = c.in-Some in
    ap (λ args. (values_of (view_exprs args) c.args.token (calls e.world n) e >>= λ vs. resume todo rest e n (Listed vs)) s) b.ensures.cases.0
    ∙ behind_first todo rest e n b.first.now b.rest c.args.token s
    ∙ ap (λ items. (answered (view_expr b.first.now) e n >>= λ r. resume items rest e n (Gave r)) s) (sym c.in_ok-push-in-Some.ensures.items)

pub returns-in-None : goal.returns-in-None
unfolding answer_of control_act give ◌>>=◌ go_on
returns-in-None c e n rest s =
    ap (λ args. (values_of (view_exprs args) c.args.token (calls e.world n) e >>= λ vs. resume c.args.todo.now.items rest e n (Listed vs)) s) (nothing_in c.args.args.now c.in-None.ensures.cases)
