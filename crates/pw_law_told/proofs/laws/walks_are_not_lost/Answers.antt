use Rattle.std.specs.Prelude.{map}
use Rattle.std.specs.List.{flat_map}
use Rattle.pw_link.specs.Linking.{linked}
use Rattle.pw_run_languages.specs.LinkingLaws.{map_of}
use Rattle.pw_run_languages.specs.MachineRun.{active_as}
use Rattle.pw_debug_frames.specs.Frames.{frame_info}
use Rattle.pw_where.specs.Looks.{entries_in, start_over}
use Rattle.pw_law_linked.specs.Given.{IsGiven}
use Rattle.pw_law_linked.specs.Settings.{linked_setting}
use Rattle.pw_law_told.proofs.Values.{held_there}
use Rattle.pw_law_told.proofs.laws.walks_are_not_lost.Goals as goal

pub returns : goal.returns
returns c = λ p q d functions objects input k step s g kind object address built located bytes direction places defined reached there at walk.
    let image = linked objects q.stack in
    let x = linked_setting q functions objects input in
    let program = built.implements.program in
    let given : IsGiven q d functions objects = record { program = program; apart = built.names; directives = built.database.directives; serve = built.serve; made = built.made; fits = built.fits } in
    let place = c.given_programs_are_in_place.ensures q d functions objects input given (c.given_programs_are_in_memory.ensures q d functions objects input given bytes) in
    let entries = c.linked_programs_have_their_entries.ensures q d functions objects program built.names built.serve built.made built.fits in
    let call = c.a_call_is_noted.ensures (entries_in image objects) (map_of q functions image) (start_over image input) s k step entries reached in
    let stand = c.active_functions_stand.ensures p q d functions objects input k step s object kind built located bytes direction places defined reached call in
    let held = held_there q x.addresses g kind s.core.memory object.address place.addresses there at in
    c.no_walk_is_lost.ensures s.core image.functions (map frame_info functions) object kind (flat_map (active_as (map_of q functions image)) call.callers) held.0 address stand.callers stand.inside held.1 walk
