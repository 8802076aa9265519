use Rattle.pw_law_select_known.proofs.Shapes.{operations_keep_shape}
use Rattle.pw_law_select_known.proofs.operations_keep_shape.Goals as goal

pub returns : goal.returns
returns c = operations_keep_shape
