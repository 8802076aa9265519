use Rattle.pw_law_linked.proofs.InPlace.{in_place}
use Rattle.pw_law_linked.proofs.given_programs_are_in_place.Goals as goal

pub returns : goal.returns
returns c =
    in_place c.modules_stand_in_order.ensures.stay
    (λ p d functions objects behind given. c.linked_addresses_are_lawful.ensures p d functions objects behind given.program given.apart given.serve given.made given.fits)
    c.selected_lines_are_ready.ensures.served
    c.text_words.ensures
    c.words_stand_at_their_addresses.ensures.words
    c.runs_keep_lawful_states.ensures.start
