use Rattle.std.proofs.Common.{refl}
use Rattle.pw_link.specs.Linking.{linked}
use Rattle.pw_machine.specs.Start.{image_start}
use Rattle.pw_law_linked.specs.Settings.{linked_setting}
use Rattle.pw_law_linked.proofs.Whole.{keeps}
use Rattle.pw_law_linked.proofs.linked_programs_run.Goals as goal

pub returns : goal.returns
returns c = λ p functions objects input h.
    let x = linked_setting p functions objects input in
    let m = (linked objects p.stack).memory in
    let links = c.linked_programs_are_linked.ensures p functions objects input h.sites h.lawful h.starts h.distinct h.ready h.code h.own in
    let framed = c.linked_programs_are_framed.ensures p functions objects input h.distinct h.sparing h.frames h.own h.globals in
    let met = c.framed_runs_are_met.ensures x links (c.library_is_there.ensures.library x framed h.behind) (c.library_is_there.ensures.routines x framed h.behind) framed in
    let start = c.images_start_as_lines.ensures x m h.first input refl h.named h.entry h.base h.small h.memory in
    keeps p functions objects input h.addresses met.0 (met.1 (image_start m) input h.first refl start)
