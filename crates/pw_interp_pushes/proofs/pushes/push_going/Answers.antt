use Rattle.std.proofs.Common.{refl, rules, sym, ap, ◌∙◌}
use Rattle.pw_cmean.specs.Acts.{give, go_on, ◌>>=◌}
use Rattle.pw_interp_todo.specs.Asking.{asked_act}
use Rattle.pw_interp_todo.specs.Going.{going_act}
use Rattle.pw_interp_todo.specs.Parts.{doing_act}
use Rattle.pw_interp_todo.specs.Resuming.{Gave, Flowed, resume, control_act}
use Rattle.pw_interp_todo.proofs.LeadLaws.{followed, left_so, named, no_memory, same_lead}
use Rattle.pw_interp_pushes.proofs.Pushing.{behind_part, behind_value}
use Rattle.pw_interp_pushes.proofs.pushes.push_going.Goals as goal

pub returns-in-Left : goal.returns-in-Left
unfolding control_act give ◌>>=◌ go_on
returns-in-Left c e rest w =
    left_so _ refl (named (ap (λ x. going_act x e c.args.bound.now >>= λ flow. resume c.args.todo.now.items rest e c.args.after (Flowed flow)) c.in-Left.is))

pub returns-in-On : goal.returns-in-On
returns-in-On c e rest w =
    followed (named (ap (λ x. going_act x e c.args.bound.now >>= λ flow. resume c.args.todo.now.items rest e c.args.after (Flowed flow)) c.in-On.is))
    (c.push_on.ensures e (resume c.args.todo.now.items rest) w)

pub returns-in_err-push-in-Then : goal.returns-in_err-push-in-Then
returns-in_err-push-in-Then c e rest w = no_memory (search rules)

pub returns-in_ok-push-in-Then : goal.returns-in_ok-push-in-Then
unfolding control_act
returns-in_ok-push-in-Then c e rest w =
    let todo = c.args.todo.now.items in
    let n = c.args.bound.now in
    let b = c.in-Then in
    left_so _ refl (same_lead (λ s.
    ap (λ x. (going_act x e n >>= λ flow. resume todo rest e c.args.after (Flowed flow)) s) b.is
    ∙ behind_part todo rest e n b.what b.rest c.args.after s
    ∙ ap (λ items. (doing_act b.what e n >>= λ flow. resume items rest e n (Flowed flow)) s) (sym c.in_ok-push-in-Then.ensures.items)))

pub returns-in_err-push-in-Ask : goal.returns-in_err-push-in-Ask
returns-in_err-push-in-Ask c e rest w = no_memory (search rules)

pub returns-in_ok-push-in-Ask : goal.returns-in_ok-push-in-Ask
unfolding control_act
returns-in_ok-push-in-Ask c e rest w =
    let todo = c.args.todo.now.items in
    let n = c.args.bound.now in
    let b = c.in-Ask in
    left_so _ refl (same_lead (λ s.
    ap (λ x. (going_act x e n >>= λ flow. resume todo rest e c.args.after (Flowed flow)) s) b.is
    ∙ behind_value todo rest e n b.asked b.given c.args.after s
    ∙ ap (λ items. (asked_act b.asked e n >>= λ r. resume items rest e n (Gave r)) s) (sym c.in_ok-push-in-Ask.ensures.items)))
