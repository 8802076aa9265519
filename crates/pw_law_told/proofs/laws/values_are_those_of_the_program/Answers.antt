use Rattle.std.specs.Prelude.{map}
use Rattle.std.specs.List.{flat_map}
use Rattle.pw_value.specs.Objects.{object_at}
use Rattle.pw_machine.specs.Core.{byte_at, register}
use Rattle.pw_link.specs.Linking.{linked}
use Rattle.pw_run_languages.specs.LinkingLaws.{address_of, map_of}
use Rattle.pw_run_languages.specs.MachineRun.{active_as}
use Rattle.pw_run_languages.specs.Standing.{global_now, pointer_address}
use Rattle.pw_debug_frames.specs.Frames.{frame_info}
use Rattle.pw_law_linked.specs.Given.{IsGiven}
use Rattle.pw_law_linked.specs.Settings.{linked_setting}
use Rattle.pw_law_told.proofs.Values.{bytes_here, held_there, stands_there, told_there}
use Rattle.pw_law_told.proofs.laws.values_are_those_of_the_program.Goals as goal

pub returns : goal.returns
returns c = λ p q d functions objects input k step s f things number g kind object value v built located bytes direction places defined reached own told long small scalar walk.
    let image = linked objects q.stack in
    let x = linked_setting q functions objects input in
    let program = built.implements.program in
    let given : IsGiven q d functions objects = record { program = program; apart = built.names; directives = built.database.directives; serve = built.serve; made = built.made; fits = built.fits } in
    let place = c.given_programs_are_in_place.ensures q d functions objects input given (c.given_programs_are_in_memory.ensures q d functions objects input given bytes) in
    let links = c.linked_programs_are_linked.ensures q functions objects input place.sites place.lawful place.starts place.distinct place.ready place.code place.own in
    let stand = c.active_functions_stand.ensures p q d functions objects input k step s object kind built located bytes direction places defined reached own.call in
    let active = flat_map (active_as (map_of q functions image)) own.call.callers in
    let held = held_there q x.addresses g kind s.core.memory object.address place.addresses (told_there q told.before g told.after told.is) told.place in
    let stands = stands_there q (address_of image) things number (global_now (address_of image) (byte_at s.core.memory) (register s.core) active) told.before g told.after told.is told.count own.globals in
    c.values_are_those_of_the_source.ensures s.core image.functions (map frame_info functions) object kind (address_of image) active g held.0 value (pointer_address q (address_of image) own.globals.place) things (object_at things number).bytes v
    (bytes_here x links step s reached.goes) told.name told.place told.size told.kind_is stand.callers held.1 long small scalar stands walk
