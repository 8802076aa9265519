use Rattle.std.proofs.Common.{refl, sym, ap, ◌∙◌, length, []}
use Rattle.std.proofs.lemmas.Bool.{ltb-false, ltb-true}
use Rattle.std.proofs.lemmas.Option.{slice_get_past, slice_get_read}
use Rattle.pw_typed.specs.Views.{view_stmt}
use Rattle.pw_cmean.specs.SourceRun.{calls}
use Rattle.pw_interp_todo.specs.Flows.{view_entry}
use Rattle.pw_interp_todo.specs.Parts.{inside}
use Rattle.pw_interp_flows.proofs.Forming.{list_some, no_list}
use Rattle.pw_interp_entries.proofs.Listing.{member_at, member_past}
use Rattle.pw_interp_flows.proofs.initialisers.list.Goals as goal

pub returns-in-Some : goal.returns-in-Some
returns-in-Some c e n s =
    let list = c.members_in.result.now in
    list_some e n s (view_stmt c.args.s.now) _ _ (view_entry c.args.at)
    (member_at list 0 _ c.members_in.ensures (slice_get_read list (length list) 0 _ refl (ltb-true 0 (length list) (sym c.in-Some.ensures.lookup.0)) c.in-Some.ensures.lookup.1))

pub returns-in-None : goal.returns-in-None
returns-in-None c e n s =
    let list = c.members_in.result.now in
    ap (λ l. inside [] l (view_entry c.args.at) (calls e.world n) e s) (member_past list 0 c.members_in.ensures (slice_get_past list 0 (ltb-false 0 (length list) (sym c.in-None.ensures.lookup.0))))
    ∙ no_list e n s (view_entry c.args.at)
