use Rattle.pw_law_linked.specs.Settings.{linked_setting}
use Rattle.pw_law_known.proofs.Known.{Laws, known_return}
use Rattle.pw_law_known.proofs.laws.return_addresses_are_known.Goals as goal

pub returns : goal.returns
returns c = λ p d functions objects input g given caller.
    let distinct = c.given_programs_have_lawful_addresses.ensures.distinct p d functions objects given in
    let own = c.given_programs_have_lawful_addresses.ensures.own p d functions objects given in
    let framed = c.linked_programs_are_framed.ensures p functions objects input distinct (c.given_functions_are_ready.ensures.sparing p d functions objects given)
    (c.given_functions_are_ready.ensures.frames p d functions objects given) own (c.given_programs_have_lawful_addresses.ensures.globals p d functions objects given) in
    known_return (record {
      stays = c.modules_stand_in_order.ensures.stay;
      mapped = c.words_stand_at_their_addresses.ensures.map;
      found = c.settings_know_their_functions.ensures.found;
      inside = c.callers_return_inside.ensures;
    }) p d functions objects input g given distinct own framed (λ l found. c.settings_know_their_functions.ensures.long functions l found) caller
