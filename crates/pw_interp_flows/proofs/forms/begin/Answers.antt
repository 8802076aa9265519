use Rattle.std.proofs.Common.{ap, refl, ◌∙◌}
use Rattle.pw_typed.specs.Views.{view_stmt}
use Rattle.pw_interp_calls.specs.Views.{view_env}
use Rattle.pw_interp_todo.specs.Flows.{view_entry}
use Rattle.pw_interp_todo.specs.Parts.{part_act}
use Rattle.pw_interp_todo.proofs.LeadLaws.{followed, left_so, named, same_lead}
use Rattle.pw_interp_flows.proofs.forms.begin.Goals as goal

pub returns-in-Whole : goal.returns-in-Whole
returns-in-Whole c n =
    let e = view_env c.args.env.now in
    let d = c.args.what in
    left_so _ refl (same_lead (λ s. ap (λ p. part_act p (view_stmt d.of.now) (view_entry d.at) e n s) c.in-Whole.is ∙ c.statement.ensures e n s))

pub returns-in-Taking : goal.returns-in-Taking
returns-in-Taking c n =
    let e = view_env c.args.env.now in
    let d = c.args.what in
    left_so _ refl (same_lead (λ s. ap (λ p. part_act p (view_stmt d.of.now) (view_entry d.at) e n s) c.in-Taking.is ∙ c.taking.ensures e n s))

pub returns-in-Members : goal.returns-in-Members
returns-in-Members c n =
    let e = view_env c.args.env.now in
    let d = c.args.what in
    left_so _ refl (same_lead (λ s. ap (λ p. part_act p (view_stmt d.of.now) (view_entry d.at) e n s) c.in-Members.is ∙ c.members.ensures e n s))

pub returns-in-Arms : goal.returns-in-Arms
returns-in-Arms c n =
    let e = view_env c.args.env.now in
    let d = c.args.what in
    left_so _ refl (same_lead (λ s. ap (λ p. part_act p (view_stmt d.of.now) (view_entry d.at) e n s) c.in-Arms.is ∙ c.arms.ensures e n s))

pub returns-in-Top : goal.returns-in-Top
returns-in-Top c n =
    let e = view_env c.args.env.now in
    let d = c.args.what in
    left_so _ refl (same_lead (λ s. ap (λ p. part_act p (view_stmt d.of.now) (view_entry d.at) e n s) c.in-Top.is ∙ c.top.ensures e n s))

pub returns-in-Initialisers : goal.returns-in-Initialisers
returns-in-Initialisers c n =
    let e = view_env c.args.env.now in
    let d = c.args.what in
    followed (named (ap (λ p. part_act p (view_stmt d.of.now) (view_entry d.at) e n) c.in-Initialisers.is)) (c.initialisers.ensures n)
