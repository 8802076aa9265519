use Rattle.pw_law_direction.proofs.side_by_side.direction_keeps.Goals as goal

pub returns : goal.returns
returns c = c.direction_rests_on_runs.ensures c.direction_refines.ensures
