use Rattle.std.proofs.Common.{refl, sym, ap, ◌∙◌, length, rules}
use Rattle.std.proofs.lemmas.Bool.{ltb-false, ltb-true}
use Rattle.std.proofs.lemmas.Option.{slice_get_past, slice_get_read}
use Rattle.pw_typed.specs.Views.{view_expr, view_stmt}
use Rattle.pw_cmean.specs.Acts.{◌>>=◌}
use Rattle.pw_cmean.specs.SourceRun.{calls}
use Rattle.pw_interp_calls.specs.Views.{view_env}
use Rattle.pw_interp_todo.specs.Going.{arm_tested}
use Rattle.pw_interp_todo.specs.Members.{otherwise_in}
use Rattle.pw_interp_todo.proofs.LeadLaws.{followed, left_so, named, same_lead, stays, then_more, then_stops}
use Rattle.pw_interp_entries.proofs.Listing.{arm_at_place, arm_past}
use Rattle.pw_interp_flows.proofs.uses.use_in_arm.Goals as goal

pub returns-in_err-met-in-Some : goal.returns-in_err-met-in-Some
unfolding arm_tested
returns-in_err-met-in-Some c n =
    let e = view_env c.args.env.now in
    let list = c.arms_in.result.now in
    let i = c.args.i in
    let first = c.in-Some.arm.now in
    followed (named (ap (λ l. arm_tested l (otherwise_in (view_stmt c.args.s.now)) e (calls e.world n) c.args.given) (arm_at_place list i first c.arms_in.ensures (slice_get_read list (length list) i first refl (ltb-true i (length list) (sym c.in-Some.ensures.lookup.0)) c.in-Some.ensures.lookup.1))))
    (then_stops _ c.tested.ensures c.in_err-met-in-Some.was (search rules))

pub returns-in_ok-met-in-Some : goal.returns-in_ok-met-in-Some
unfolding arm_tested
returns-in_ok-met-in-Some c n =
    let e = view_env c.args.env.now in
    let list = c.arms_in.result.now in
    let i = c.args.i in
    let first = c.in-Some.arm.now in
    followed (named (ap (λ l. arm_tested l (otherwise_in (view_stmt c.args.s.now)) e (calls e.world n) c.args.given) (arm_at_place list i first c.arms_in.ensures (slice_get_read list (length list) i first refl (ltb-true i (length list) (sym c.in-Some.ensures.lookup.0)) c.in-Some.ensures.lookup.1))))
    (then_more _ c.tested.ensures c.in_ok-met-in-Some.was (left_so _ refl (same_lead (λ s. c.arm_or_rest.ensures e n s))))

pub returns-in-None : goal.returns-in-None
unfolding arm_tested
returns-in-None c n =
    let e = view_env c.args.env.now in
    let list = c.arms_in.result.now in
    let i = c.args.i in
    left_so _ refl (named (ap (λ l. arm_tested l (otherwise_in (view_stmt c.args.s.now)) e (calls e.world n) c.args.given) (arm_past list i c.arms_in.ensures (slice_get_past list i (ltb-false i (length list) (sym c.in-None.ensures.lookup.0))))))
