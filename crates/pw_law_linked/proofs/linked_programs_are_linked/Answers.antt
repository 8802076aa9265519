use Rattle.std.specs.List.{AllByRecursion}
use Rattle.pw_select.specs.Selection.{selected}
use Rattle.pw_run_languages.specs.CodeStands.{AreReady}
use Rattle.pw_run_languages.specs.SelectionLaws.{with_items}
use Rattle.pw_law_link_run.specs.Placing.{Stands}
use Rattle.pw_law_link_run.specs.Simulating.{IsFit}
use Rattle.pw_law_linked.specs.Settings.{linked_setting}
use Rattle.pw_law_linked.specs.Standing.{IsFoundAmong, CodeAt}
use Rattle.pw_law_linked.proofs.Linked.{mapped, from_three, linked_by}
use Rattle.pw_law_linked.proofs.linked_programs_are_linked.Goals as goal

pub returns : goal.returns
returns c = λ p functions objects input sites lawful starts distinct ready code own.
    let x = linked_setting p functions objects input in
    let found = c.settings_know_their_functions.ensures.found functions distinct in
    let stands = from_three (IsFoundAmong functions) (λ l. AreReady (selected l)) (CodeAt p functions objects input sites) (λ l. Stands x (with_items l)) functions
    (λ l f r h. c.functions_stand_as_items.ensures p functions objects input sites l f r h) found ready code in
    let fits = mapped (λ l. AreReady (selected l)) (λ l. AllByRecursion (IsFit x) (with_items l).items) functions
    (λ l r. c.ready_lines_fit.ensures x (selected l) r.each (c.selected_calls_are_conventional.ensures l)) ready in
    linked_by p functions objects input (c.lawful_starts_are_settings.ensures x lawful starts) lawful.core.memory.text found stands fits own
