use Rattle.std.proofs.Common.{ap, refl, ◌∙◌}
use Rattle.pw_typed.specs.Views.{view_stmt}
use Rattle.pw_interp_calls.specs.Views.{view_env}
use Rattle.pw_interp_todo.specs.Going.{purpose_act}
use Rattle.pw_interp_todo.proofs.LeadLaws.{followed, left_so, named, same_lead}
use Rattle.pw_interp_flows.proofs.uses.use_value.Goals as goal

pub returns-in-Arm : goal.returns-in-Arm
returns-in-Arm c n =
    let e = view_env c.args.env.now in
    followed (named (ap (λ p. purpose_act p (view_stmt c.args.what.of.now) e n c.args.given) c.in-Arm.is)) (c.use_in_arm.ensures n)

pub returns-in-Ahead : goal.returns-in-Ahead
returns-in-Ahead c n =
    let e = view_env c.args.env.now in
    followed (named (ap (λ p. purpose_act p (view_stmt c.args.what.of.now) e n c.args.given) c.in-Ahead.is)) (c.use_ahead.ensures n)

pub returns-in-Tail : goal.returns-in-Tail
returns-in-Tail c n =
    let e = view_env c.args.env.now in
    followed (named (ap (λ p. purpose_act p (view_stmt c.args.what.of.now) e n c.args.given) c.in-Tail.is)) (c.use_behind.ensures n)

pub returns-in-Switch : goal.returns-in-Switch
returns-in-Switch c n =
    let e = view_env c.args.env.now in
    followed (named (ap (λ p. purpose_act p (view_stmt c.args.what.of.now) e n c.args.given) c.in-Switch.is)) (c.use_in_switch.ensures n)

pub returns-in-Return : goal.returns-in-Return
returns-in-Return c n =
    let e = view_env c.args.env.now in
    followed (named (ap (λ p. purpose_act p (view_stmt c.args.what.of.now) e n c.args.given) c.in-Return.is)) (c.use_in_return.ensures n)

pub returns-in-Initialise : goal.returns-in-Initialise
returns-in-Initialise c n =
    let e = view_env c.args.env.now in
    followed (named (ap (λ p. purpose_act p (view_stmt c.args.what.of.now) e n c.args.given) c.in-Initialise.is)) (c.use_in_local.ensures n)

pub returns-in-First : goal.returns-in-First
returns-in-First c n =
    let e = view_env c.args.env.now in
    left_so _ refl (same_lead (λ s. ap (λ p. purpose_act p (view_stmt c.args.what.of.now) e n c.args.given s) c.in-First.is ∙ c.top.ensures e n s))

pub returns-in-Third : goal.returns-in-Third
returns-in-Third c n =
    let e = view_env c.args.env.now in
    left_so _ refl (same_lead (λ s. ap (λ p. purpose_act p (view_stmt c.args.what.of.now) e n c.args.given s) c.in-Third.is ∙ c.back.ensures e n s))

pub returns-in-Dropped : goal.returns-in-Dropped
returns-in-Dropped c n =
    let e = view_env c.args.env.now in
    left_so _ refl (named (ap (λ p. purpose_act p (view_stmt c.args.what.of.now) e n c.args.given) c.in-Dropped.is))
