use Rattle.pw_law_words.proofs.accepted_texts_are_well_typed.Goals as goal

pub returns : goal.returns
returns g = λ tree m text short checked. g.accepted_is_well_typed.ensures tree m text checked (g.accepted_numbers_are_words.ensures tree m short checked) (g.accepted_strings_are_short.ensures tree m short checked)
