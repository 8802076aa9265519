use Rattle.pw_law_layers.proofs.Agreement.{source_to_machine}
use Rattle.pw_law_layers.proofs.refinement_goes_through.Goals as goal

pub returns : goal.returns
returns c = source_to_machine
