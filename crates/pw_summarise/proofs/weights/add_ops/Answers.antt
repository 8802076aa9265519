use Rattle.std.proofs.Common.{take, sym, subst, ◌∙◌}
use Rattle.std.proofs.lemmas.List.{map-id}
use Rattle.pw_files.specs.Rising.{IsRising}
use Rattle.pw_summarise.specs.Tallies.{with_op, with_ops}
use Rattle.pw_summarise.proofs.WeightLaws.{names_kept, ops_keep, map_twice, folded_on}
use Rattle.pw_summarise.proofs.weights.add_ops.Goals as goal

pub loop-op-init : goal.loop-op-init
loop-op-init c = sym (map-id c.args.refs.now)

pub add_op-requires : goal.add_op-requires
add_op-requires c =
    let ops = take c.loop-op.op-index c.args.ops.now in
    rw c.loop-op.invariant (subst IsRising (sym (names_kept (with_ops c.args.weight ops) (ops_keep c.args.weight ops) c.args.refs.now)) c.requires)

pub loop-op-preserved : goal.loop-op-preserved
loop-op-preserved c =
    c.add_op.ensures
    ∙ rw c.loop-op.invariant (map_twice _ _ _ (λ r. folded_on (with_op c.args.weight) c.args.ops.now c.loop-op.op-index c.op-item.result r c.loop-op-test.true c.op-item.is) c.args.refs.now)
