use Rattle.std.proofs.Common.{ap, refl, rules, ◌∙◌, ◌∷◌, drop}
use Rattle.pw_typed.specs.Views.{view_initialiser, view_stmt}
use Rattle.pw_interp_calls.specs.Views.{view_env}
use Rattle.pw_interp_todo.specs.Members.{initialisers_in, members_in}
use Rattle.pw_interp_todo.proofs.LeadLaws.{followed, left_so, same_lead, stays, then_more, then_stops}
use Rattle.pw_interp_flows.proofs.Forming.{inside_bytes, inside_value}
use Rattle.pw_interp_flows.proofs.initialisers.initialised.Goals as goal

pub returns-in-Value : goal.returns-in-Value
returns-in-Value c is n =
    let e = view_env c.args.env.now in
    left_so _ refl (same_lead (λ s. inside_value e n s _ (members_in (view_stmt c.args.s.now)) _ _ _ (is ∙ ap (λ x. view_initialiser x ∷ drop c.args.rest (initialisers_in (view_stmt c.args.s.now))) c.in-Value.is)))

pub returns-in_err-initialise_bytes-in-Bytes : goal.returns-in_err-initialise_bytes-in-Bytes
returns-in_err-initialise_bytes-in-Bytes c is n =
    let e = view_env c.args.env.now in
    followed (same_lead (λ s. inside_bytes e n s _ (members_in (view_stmt c.args.s.now)) _ _ _ _ (is ∙ ap (λ x. view_initialiser x ∷ drop c.args.rest (initialisers_in (view_stmt c.args.s.now))) c.in-Bytes.is)))
    (then_stops _ c.initialise_bytes.ensures c.in_err-initialise_bytes-in-Bytes.was (search rules))

pub returns-in_ok-initialise_bytes-in-Bytes : goal.returns-in_ok-initialise_bytes-in-Bytes
returns-in_ok-initialise_bytes-in-Bytes c is n =
    let e = view_env c.args.env.now in
    followed (same_lead (λ s. inside_bytes e n s _ (members_in (view_stmt c.args.s.now)) _ _ _ _ (is ∙ ap (λ x. view_initialiser x ∷ drop c.args.rest (initialisers_in (view_stmt c.args.s.now))) c.in-Bytes.is)))
    (then_more _ c.initialise_bytes.ensures c.in_ok-initialise_bytes-in-Bytes.was (left_so _ refl stays))
