use Rattle.std.proofs.Common.{refl}
use Rattle.pw_run_languages.specs.SelectionLaws.{with_items}
use Rattle.pw_law_link_run.specs.Leveled.{IsFramed}
use Rattle.pw_law_levels.specs.Sparing.{IsSparing}
use Rattle.pw_law_linked.specs.Settings.{linked_setting}
use Rattle.pw_law_linked.specs.Standing.{IsFoundAmong, ItsAddressIsItsOwn, HasFrame}
use Rattle.pw_law_linked.proofs.Linked.{from_four}
use Rattle.pw_law_linked.proofs.Framed.{none_inside, framed_by}
use Rattle.pw_law_linked.proofs.linked_programs_are_framed.Goals as goal

pub returns : goal.returns
returns c = λ p functions objects input distinct sparing frames own globals.
    let x = linked_setting p functions objects input in
    let found = c.settings_know_their_functions.ensures.found functions distinct in
    let framed = from_four IsSparing HasFrame (ItsAddressIsItsOwn p objects) (IsFoundAmong functions) (λ l. IsFramed x (with_items l)) functions
    (λ l s f o among. c.selected_functions_are_framed.ensures x (with_items l) l f.0 refl refl s f.1 (none_inside p functions objects input l among o)) sparing frames own found in
    framed_by p functions objects input framed found own globals
