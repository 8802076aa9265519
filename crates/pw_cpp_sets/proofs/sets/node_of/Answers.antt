use Rattle.std.proofs.Common.{◌-◌, arith}
use Rattle.std.proofs.lemmas.Option.{slice_get-get_or}
use Rattle.pw_cpp_sets.proofs.Nodes.{empty-set, made-by}
use Rattle.pw_cpp_sets.proofs.sets.node_of.Goals as goal

pub returns-then-set-eq0 : goal.returns-then-set-eq0
returns-then-set-eq0 c = empty-set c.args.nodes.now c.args.set c.if-set-eq0.true

pub returns : goal.returns
returns c =
    made-by c.args.nodes.now c.args.set _ c.requires.behind (omega arith) (slice_get-get_or c.args.nodes.now (c.args.set - 1) _ (omega arith))
