use Rattle.pw_law_analysis.proofs.analyser.databases_serve.Goals as goal

pub returns : goal.returns
returns c = c.analyses_compose.ensures c.databases_are_lawful.ensures c.databases_are_sound_by_name.ensures c.coloured_globals_are_covered.ensures
