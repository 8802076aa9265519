use Rattle.pw_law_direction.proofs.Runs.{runs-rest-on-steps}
use Rattle.pw_law_direction.proofs.side_by_side.runs_rest_on_steps.Goals as goal

pub returns : goal.returns
returns c = runs-rest-on-steps
