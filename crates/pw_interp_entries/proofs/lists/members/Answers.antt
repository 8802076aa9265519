use Rattle.std.proofs.Common.{refl, sym, ap, ◌∙◌, length}
use Rattle.std.proofs.lemmas.Bool.{ltb-false, ltb-true}
use Rattle.std.proofs.lemmas.Option.{slice_get_past, slice_get_read}
use Rattle.pw_cmean.specs.SourceRun.{calls}
use Rattle.pw_interp_todo.specs.Flows.{view_entry}
use Rattle.pw_cmean.specs.Execution.{items}
use Rattle.pw_interp_entries.proofs.Listing.{member_at, member_past, no_items}
use Rattle.pw_interp_entries.proofs.lists.members.Goals as goal

pub returns-in-Some : goal.returns-in-Some
returns-in-Some c e n s =
    let list = c.members_in.result.now in
    let i = c.args.i in
    let first = c.in-Some.first.now in
    ap (λ l. items l (view_entry c.args.at) (calls e.world n) e s) (member_at list i first c.members_in.ensures (slice_get_read list (length list) i first refl (ltb-true i (length list) (sym c.in-Some.ensures.lookup.0)) c.in-Some.ensures.lookup.1))
    ∙ c.member.ensures e n s

pub returns-in-None : goal.returns-in-None
returns-in-None c e n s =
    let list = c.members_in.result.now in
    let i = c.args.i in
    ap (λ l. items l (view_entry c.args.at) (calls e.world n) e s) (member_past list i c.members_in.ensures (slice_get_past list i (ltb-false i (length list) (sym c.in-None.ensures.lookup.0))))
    ∙ no_items e n s (view_entry c.args.at)
