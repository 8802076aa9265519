use Rattle.std.proofs.Common.{refl, sym, ap, length}
use Rattle.std.proofs.lemmas.Bool.{ltb-false, ltb-true}
use Rattle.std.proofs.lemmas.Option.{slice_get_past, slice_get_read}
use Rattle.pw_typed.specs.Views.{view_stmt}
use Rattle.pw_cmean.specs.SourceRun.{calls}
use Rattle.pw_interp_calls.specs.Views.{view_env}
use Rattle.pw_interp_todo.specs.Going.{initialised}
use Rattle.pw_interp_todo.specs.Members.{members_in}
use Rattle.pw_interp_todo.proofs.LeadLaws.{followed, left_so, named, stays}
use Rattle.pw_interp_flows.proofs.Forming.{initialiser_at, initialiser_past}
use Rattle.pw_interp_flows.proofs.uses.use_in_local.Goals as goal

pub returns-in-Some : goal.returns-in-Some
returns-in-Some c n =
    let e = view_env c.args.env.now in
    let list = c.initialisers_in.result.now in
    let i = c.args.i in
    let first = c.in-Some.first.now in
    followed (named (ap (λ l. initialised l (members_in (view_stmt c.args.s.now)) e (calls e.world n) c.args.given)
    (initialiser_at list i first c.initialisers_in.ensures (slice_get_read list (length list) i first refl (ltb-true i (length list) (sym c.in-Some.ensures.lookup.0)) c.in-Some.ensures.lookup.1))))
    (c.initialise_with.ensures n)

pub returns-in-None : goal.returns-in-None
unfolding initialised
returns-in-None c n =
    let e = view_env c.args.env.now in
    let list = c.initialisers_in.result.now in
    let i = c.args.i in
    followed (named (ap (λ l. initialised l (members_in (view_stmt c.args.s.now)) e (calls e.world n) c.args.given)
    (initialiser_past list i c.initialisers_in.ensures (slice_get_past list i (ltb-false i (length list) (sym c.in-None.ensures.lookup.0))))))
    (left_so _ refl stays)
