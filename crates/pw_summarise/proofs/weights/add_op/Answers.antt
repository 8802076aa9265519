use Rattle.std.proofs.Common.{sym}
use Rattle.pw_summarise.specs.Tallies.{with_op}
use Rattle.pw_summarise.proofs.WeightLaws.{op_leaves, map_leaves}
use Rattle.pw_summarise.proofs.weights.add_op.Goals as goal

pub returns-in_default : goal.returns-in_default
returns-in_default c = sym (map_leaves (λ r. with_op c.args.weight r c.args.op.now) (λ r. op_leaves c.args.weight c.args.op.now r c.in_default.not-LoadG c.in_default.not-StoreG) c.args.refs.now)
