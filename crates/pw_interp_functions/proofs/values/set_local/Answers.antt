use Rattle.std.proofs.Common.{refl, sym, ap, ◌∙◌, length, option_map, rules}
use Rattle.std.proofs.lemmas.Bool.{ltb-false, ltb-true}
use Rattle.std.proofs.lemmas.Option.{slice_get-map, slice_get_past, slice_get_read}
use Rattle.pw_typed.specs.Views.{view_local}
use Rattle.pw_cmean.specs.Evaluation.{site}
use Rattle.pw_interp_state.specs.Shown.{view_state}
use Rattle.pw_interp_calls.specs.Views.{view_env}
use Rattle.pw_interp_calls.proofs.AnswerLaws.{then_ok, then_err}
use Rattle.pw_interp_functions.proofs.Setting.{local_none, local_some}
use Rattle.pw_interp_functions.proofs.values.set_local.Goals as goal

pub returns-in-None : goal.returns-in-None
returns-in-None c =
    let e = view_env c.args.env.now in
    let k = c.args.local in
    let all = c.args.env.now.locals.now in
    local_none e.world (site e c.args.token) k c.args.value e (view_state c.args.state.now)
    (slice_get-map view_local all k ∙ ap (option_map view_local) (slice_get_past all k (ltb-false k (length all) (sym c.in-None.ensures.lookup.0))))

pub returns-in_err-place-in-Some : goal.returns-in_err-place-in-Some
returns-in_err-place-in-Some c =
    let e = view_env c.args.env.now in
    let k = c.args.local in
    let d = c.in-Some.declared.now in
    let all = c.args.env.now.locals.now in
    let there = slice_get_read all (length all) k d refl (ltb-true k (length all) (sym c.in-Some.ensures.lookup.0)) c.in-Some.ensures.lookup.1 in
    local_some e.world (site e c.args.token) k c.args.value e (view_state c.args.state.now) (view_local d) _ _
    (slice_get-map view_local all k ∙ ap (option_map view_local) there)
    (then_err _ (c.local_place.ensures.answers (view_state c.args.state.now)) c.in_err-place-in-Some.was (search rules))

pub returns-in_ok-place-in-Some : goal.returns-in_ok-place-in-Some
returns-in_ok-place-in-Some c =
    let e = view_env c.args.env.now in
    let k = c.args.local in
    let d = c.in-Some.declared.now in
    let all = c.args.env.now.locals.now in
    let there = slice_get_read all (length all) k d refl (ltb-true k (length all) (sym c.in-Some.ensures.lookup.0)) c.in-Some.ensures.lookup.1 in
    local_some e.world (site e c.args.token) k c.args.value e (view_state c.args.state.now) (view_local d) _ _
    (slice_get-map view_local all k ∙ ap (option_map view_local) there)
    (then_ok _ (c.local_place.ensures.answers (view_state c.args.state.now)) c.in_ok-place-in-Some.was c.put.ensures)
