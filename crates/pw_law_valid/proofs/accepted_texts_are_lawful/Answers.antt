use Rattle.pw_law_valid.proofs.accepted_texts_are_lawful.Goals as goal

pub returns : goal.returns
returns g = λ home text tokens tree m lexed of checks.
    let short = g.strings_of_texts.ensures text tokens tree lexed of in
    let words = g.words_spell_what_they_are.ensures text tokens tree lexed of in
    let numbered = g.accepted_objects_are_numbered.ensures text tokens tree m lexed of checks in
    g.modules_are_lawful.ensures home m
    (g.accepted_texts_are_well_typed.ensures tree m of.well_formed short checks)
    (g.accepted_is_within.ensures tree m of.well_formed words short checks numbered)
