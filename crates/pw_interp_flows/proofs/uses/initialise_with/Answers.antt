use Rattle.std.proofs.Common.{refl, ap, ◌∷◌, drop, rules}
use Rattle.pw_typed.specs.Views.{view_initialiser, view_stmt}
use Rattle.pw_cmean.specs.SourceRun.{calls}
use Rattle.pw_interp_calls.specs.Views.{view_env}
use Rattle.pw_interp_todo.specs.Going.{initialised}
use Rattle.pw_interp_todo.specs.Members.{initialisers_in, members_in}
use Rattle.pw_interp_todo.proofs.LeadLaws.{followed, left_so, named, stays, then_more, then_stops}
use Rattle.pw_interp_flows.proofs.uses.initialise_with.Goals as goal

pub returns-in_err-value-in-Value : goal.returns-in_err-value-in-Value
unfolding initialised
returns-in_err-value-in-Value c n =
    let e = view_env c.args.env.now in
    followed (named (ap (λ x. initialised (view_initialiser x ∷ drop c.args.rest (initialisers_in (view_stmt c.args.s.now))) (members_in (view_stmt c.args.s.now)) e (calls e.world n) c.args.given) c.in-Value.is))
    (then_stops _ (c.used.ensures.answers _) c.in_err-value-in-Value.was (search rules))

pub returns-in_err-set_local-in-Value : goal.returns-in_err-set_local-in-Value
unfolding initialised
returns-in_err-set_local-in-Value c n =
    let e = view_env c.args.env.now in
    followed (named (ap (λ x. initialised (view_initialiser x ∷ drop c.args.rest (initialisers_in (view_stmt c.args.s.now))) (members_in (view_stmt c.args.s.now)) e (calls e.world n) c.args.given) c.in-Value.is))
    (then_more _ (c.used.ensures.answers _) c.in_ok-value-in-Value.was
    (then_stops _ c.set_local.ensures c.in_err-set_local-in-Value.was (search rules)))

pub returns-in_ok-set_local-in-Value : goal.returns-in_ok-set_local-in-Value
unfolding initialised
returns-in_ok-set_local-in-Value c n =
    let e = view_env c.args.env.now in
    followed (named (ap (λ x. initialised (view_initialiser x ∷ drop c.args.rest (initialisers_in (view_stmt c.args.s.now))) (members_in (view_stmt c.args.s.now)) e (calls e.world n) c.args.given) c.in-Value.is))
    (then_more _ (c.used.ensures.answers _) c.in_ok-value-in-Value.was
    (then_more _ c.set_local.ensures c.in_ok-set_local-in-Value.was (left_so _ refl stays)))

pub returns-in-Bytes : goal.returns-in-Bytes
unfolding initialised
returns-in-Bytes c n =
    let e = view_env c.args.env.now in
    followed (named (ap (λ x. initialised (view_initialiser x ∷ drop c.args.rest (initialisers_in (view_stmt c.args.s.now))) (members_in (view_stmt c.args.s.now)) e (calls e.world n) c.args.given) c.in-Bytes.is)) (left_so _ refl stays)
