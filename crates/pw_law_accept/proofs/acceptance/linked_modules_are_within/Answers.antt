use Rattle.pw_law_accept.proofs.acceptance.linked_modules_are_within.Goals as goal

pub returns : goal.returns
returns g = λ p frame_of stack checked linked m there.
    let is = checked m there in
    g.accepted_is_within.ensures is.syntax m.tree is.parsed.well_formed (g.words_spell_what_they_are.ensures is.text is.tokens is.syntax is.lexed is.parsed) (g.strings_of_texts.ensures is.text is.tokens is.syntax is.lexed is.parsed) is.is
    (g.accepted_objects_are_numbered.ensures is.text is.tokens is.syntax m.tree is.lexed is.parsed is.is)
