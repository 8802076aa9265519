use Rattle.pw_law_layers.proofs.Composition.{holds}
use Rattle.pw_law_layers.proofs.layers_hold.Goals as goal

pub returns : goal.returns
returns c = holds
