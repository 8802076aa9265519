use Rattle.pw_law_refine_whole.proofs.programs_keep_runs.Goals as goal

pub returns : goal.returns
returns c = c.parts_make_programs.ensures c.all_parts_keep.ensures
