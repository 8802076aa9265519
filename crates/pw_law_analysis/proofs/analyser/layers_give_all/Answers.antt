use Rattle.pw_law_analysis.proofs.analyser.layers_give_all.Goals as goal

pub returns : goal.returns
returns c = λ selection p q ss colours db functions objects input built bytes.
    let program = built.implements.program in
    let s = c.databases_serve.ensures q ss colours db built.linked built.few built.database built.alike in
    c.all_laws_compose.ensures selection c.linking_keeps_runs.ensures c.databases_are_lawful.ensures c.databases_are_sound_by_name.ensures c.coloured_globals_are_covered.ensures
    p q ss colours db functions objects input built bytes
    (c.direction_keeps.ensures q db input program s.database s.sound) (c.places_keep.ensures q db functions input program s.database s.sound built.serve)
