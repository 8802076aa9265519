use Rattle.std.proofs.Common.{refl, rules, ap, ◌∙◌}
use Rattle.pw_cmean.specs.Acts.{◌>>=◌}
use Rattle.pw_interp_todo.specs.Going.{going_act}
use Rattle.pw_interp_todo.specs.Resuming.{Flowed, control_act}
use Rattle.pw_interp_todo.specs.declared.statements.Going.TheVariants as G
use Rattle.pw_interp_todo.proofs.LeadLaws.{followed, left_so, named}
use Rattle.pw_interp_pushes.proofs.Pushing.{back_more, back_stopped}
use Rattle.pw_interp_pushes.proofs.pushes.push_on.Goals as goal

pub returns-in-Here : goal.returns-in-Here
unfolding control_act
returns-in-Here c e rest w =
    left_so _ refl (named (ap (λ t. going_act (G.On t c.args.what) e c.args.bound.now >>= λ flow. rest e c.args.after (Flowed flow)) c.in-Here.is))

pub returns-in_err-lowered-in-Back : goal.returns-in_err-lowered-in-Back
returns-in_err-lowered-in-Back c e rest w =
    let none = c.in_err-lowered-in-Back.ensures.none in
    followed (named (ap (λ t. going_act (G.On t c.args.what) e c.args.bound.now >>= λ flow. rest e c.args.after (Flowed flow)) c.in-Back.is))
    (back_stopped w c.args.what e c.args.bound.now _ _ none.0 none.1 (search rules))

pub returns-in_ok-lowered-in-Back : goal.returns-in_ok-lowered-in-Back
unfolding control_act
returns-in_ok-lowered-in-Back c e rest w =
    left_so _ refl (named (
    ap (λ t. going_act (G.On t c.args.what) e c.args.bound.now >>= λ flow. rest e c.args.after (Flowed flow)) c.in-Back.is
    ∙ ap (λ act. act >>= λ flow. rest e c.args.after (Flowed flow)) (back_more c.args.what e c.args.bound.now c.in_ok-lowered-in-Back.lowered c.in_ok-lowered-in-Back.ensures.lower)))
