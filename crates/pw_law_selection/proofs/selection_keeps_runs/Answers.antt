use Rattle.pw_law_selection.proofs.selection_keeps_runs.Goals as goal

pub returns : goal.returns
returns c = c.selection_rests_on_steps.ensures c.starts_are_followed.ensures c.steps_are_followed.ensures
