use Rattle.std.proofs.Common.{refl, sym, ap, ◌∙◌, length, [], drop}
use Rattle.std.proofs.lemmas.Bool.{ltb-false, ltb-true}
use Rattle.std.proofs.lemmas.Option.{slice_get_past, slice_get_read}
use Rattle.pw_typed.specs.Views.{view_stmt}
use Rattle.pw_cmean.specs.SourceRun.{calls}
use Rattle.pw_interp_todo.specs.Flows.{view_entry}
use Rattle.pw_interp_calls.specs.Views.{view_env}
use Rattle.pw_interp_todo.specs.Members.{initialisers_in, members_in}
use Rattle.pw_interp_todo.specs.Parts.{inside}
use Rattle.pw_interp_todo.proofs.LeadLaws.{followed, left_so, named, same_lead}
use Rattle.pw_interp_flows.proofs.Forming.{inside_label, initialiser_at, initialiser_past}
use Rattle.pw_interp_flows.proofs.initialisers.initialisers.Goals as goal

pub returns-in-Some : goal.returns-in-Some
returns-in-Some c n =
    let e = view_env c.args.env.now in
    let list = c.initialisers_in.result.now in
    let i = c.args.i in
    let first = c.in-Some.first.now in
    let there = slice_get_read list (length list) i first refl (ltb-true i (length list) (sym c.in-Some.ensures.lookup.0)) c.in-Some.ensures.lookup.1 in
    followed (named (ap (λ at. inside (drop i (initialisers_in (view_stmt c.args.s.now))) (members_in (view_stmt c.args.s.now)) (view_entry at) (calls e.world n) e) c.in-Front.is))
    (c.initialised.ensures (initialiser_at list i first c.initialisers_in.ensures there) n)

pub returns-in-None : goal.returns-in-None
returns-in-None c n =
    let e = view_env c.args.env.now in
    let list = c.initialisers_in.result.now in
    let i = c.args.i in
    let past = slice_get_past list i (ltb-false i (length list) (sym c.in-None.ensures.lookup.0)) in
    left_so _ refl (same_lead (λ s.
    ap (λ l. inside l (members_in (view_stmt c.args.s.now)) (view_entry c.args.at) (calls e.world n) e s) (initialiser_past list i c.initialisers_in.ensures past)
    ∙ c.list.ensures e n s))

pub returns-in-AtLabel : goal.returns-in-AtLabel
returns-in-AtLabel c n =
    let e = view_env c.args.env.now in
    let S = view_stmt c.args.s.now in
    left_so _ refl (same_lead (λ s.
    ap (λ at. inside (drop c.args.i (initialisers_in S)) (members_in S) (view_entry at) (calls e.world n) e s) c.in-AtLabel.is
    ∙ inside_label e n s (drop c.args.i (initialisers_in S)) (members_in S) _
    ∙ ap (λ at. inside [] (members_in S) (view_entry at) (calls e.world n) e s) (sym c.in-AtLabel.is)
    ∙ c.list-in-AtLabel.ensures e n s))
