use Rattle.std.proofs.Common.{refl, sym, ap, ◌∙◌, length}
use Rattle.std.proofs.lemmas.Bool.{ltb-false, ltb-true}
use Rattle.std.proofs.lemmas.Option.{slice_get_past, slice_get_read}
use Rattle.pw_typed.specs.Views.{view_stmt}
use Rattle.pw_cmean.specs.SourceRun.{calls}
use Rattle.pw_interp_todo.specs.Flows.{view_entry}
use Rattle.pw_interp_todo.specs.Members.{otherwise_in}
use Rattle.pw_interp_todo.specs.Parts.{met_arms}
use Rattle.pw_interp_entries.proofs.Listing.{arm_at_place, arm_past, no_arms}
use Rattle.pw_interp_entries.proofs.lists.arms.Goals as goal

pub returns-in-Some : goal.returns-in-Some
returns-in-Some c e n s =
    let list = c.arms_in.result.now in
    let i = c.args.i in
    let first = c.in-Some.first.now in
    c.arm.ensures (arm_at_place list i first c.arms_in.ensures (slice_get_read list (length list) i first refl (ltb-true i (length list) (sym c.in-Some.ensures.lookup.0)) c.in-Some.ensures.lookup.1)) e n s

pub returns-in-None : goal.returns-in-None
returns-in-None c e n s =
    let list = c.arms_in.result.now in
    let i = c.args.i in
    let o = otherwise_in (view_stmt c.args.s.now) in
    ap (λ l. met_arms l o e (view_entry c.args.at) (calls e.world n) s) (arm_past list i c.arms_in.ensures (slice_get_past list i (ltb-false i (length list) (sym c.in-None.ensures.lookup.0))))
    ∙ no_arms e n s o (view_entry c.args.at)
    ∙ c.behind_arms.ensures e n s
