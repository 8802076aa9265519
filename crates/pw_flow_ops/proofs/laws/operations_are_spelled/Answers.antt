use Rattle.pw_flow_ops.proofs.OpLaws.{op_spells}
use Rattle.pw_flow_ops.proofs.laws.operations_are_spelled.Goals as goal

pub returns : goal.returns
returns c = op_spells
