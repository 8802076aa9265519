use Rattle.std.proofs.Common.{◌≡◌, ◌∙◌, ◌≤◌, ◌<◌, ap, map, ◌++◌, arith}
use Rattle.pw_cpp_sets.specs.Sets.{set_at, sets_of}
use Rattle.pw_cpp_sets.proofs.Nodes.{names-all, names-more, said}
use Rattle.pw_cpp_sets.proofs.sets.names_of.Goals as goal

pub loop-node-preserved : goal.loop-node-preserved
loop-node-preserved c =
    let nodes = c.args.nodes.now in
    let made = c.in-Some.ensures in
    let more = names-more nodes c.loop-node.number c.in-Some.node made c.loop-node.names.items in (
      omega (arith, made.before, c.loop-node.invariant.0),
      ap (λ x. map said x ++ set_at (sets_of nodes) c.in-Some.node.rest) c.in_ok-push.ensures.items ∙ more ∙ c.loop-node.invariant.1,
    )

pub returns : goal.returns
returns c =
    let nodes = c.args.nodes.now in
    names-all c.loop-node.names.items (set_at (sets_of nodes) c.loop-node.number) (set_at (sets_of nodes) c.args.set) c.loop-node.invariant.1 c.in_default.ensures
