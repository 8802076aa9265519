use Rattle.pw_flow_ops.proofs.EndLaws.{end_spells}
use Rattle.pw_flow_ops.proofs.laws.ends_are_spelled.Goals as goal

pub returns : goal.returns
returns c = end_spells
