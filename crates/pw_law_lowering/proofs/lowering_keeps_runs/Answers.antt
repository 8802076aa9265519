use Rattle.pw_law_lowering.proofs.lowering_keeps_runs.Goals as goal

pub returns : goal.returns
returns c = c.lowering_rests_on_programs.ensures c.programs_keep_runs.ensures c.source_is_never_wrong.ensures
